-- Clearing a sheet. Paper 01: "A cleared sheet is good with two rows, tag 1 in row 1, all else zero." "Clearing gives 0 or 1."
-- Order 3: "Clearing gets a choice, kept as the last number of row 0: 0 as before, 1 by the standard"; "1 also covers a choice above 1".
--     Cleared       a clearing's answer and the sheet afterwards
--     clear         the call; ClearIs: what it says of itself
use Rattle.std.specs.Prelude.{ℕ, ◌≡◌, ◌&&◌, eqb, leb, length, if◌then◌else◌}
use Rattle.sheet.specs.Rows.{Sheet}
use Rattle.sheet.specs.Lengths.{sheet_lengths, Answer}
use Rattle.sheet.specs.Returned.{accepted, bad_length}
use Rattle.xsd_types.specs.State.{first_state}
use Rattle.xsd_types.specs.Count.{sheet_of}

pub record Cleared : Type 0 where
  pub answer : Answer
  pub sheet : Sheet

unfoldable pub clear : ℕ → Sheet → Cleared
clear choice x =
    if sheet_lengths (length x.rows) (length x.names) && leb choice 1
    then record { answer = record { number = accepted; place = 0 }; sheet = sheet_of (first_state (eqb choice 1)) (length x.rows) (length x.names) }
    else record { answer = record { number = bad_length; place = 0 }; sheet = x }

-- what a clearing says of itself: number, place and the sheet afterwards are the definition's
abbrev pub ClearIs : ℕ → Sheet → Answer → Sheet → Type 0
ClearIs choice before answer after = ◌≡◌ {A = Cleared} (record { answer = answer; sheet = after }) (clear choice before)
