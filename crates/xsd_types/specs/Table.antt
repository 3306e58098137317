-- Paper 01, "Returned numbers", for clearing: "Clearing gives 0 or 1." Order 3: "1 also covers a choice above 1". Each row of the table is one case, with its
-- condition, its place and what is left.
--     ClearTable choice x r    a clearing of x by the choice ends with r
--     ConvertTable x r         a conversion of x (order 7) ends with r
use Rattle.std.specs.Prelude.{ℕ, ◌≡◌, true, false, ◌&&◌, eqb, leb, length}
use Rattle.sheet.specs.Rows.{Sheet}
use Rattle.sheet.specs.Lengths.{sheet_lengths}
use Rattle.sheet.specs.Returned.{accepted, bad_length, not_good}
use Rattle.xsd_types.specs.State.{first_state}
use Rattle.xsd_types.specs.Count.{count_of, with_count, sheet_of, state_of}
use Rattle.xsd_types.specs.Clear.{Cleared}
use Rattle.xsd_types.specs.Convert.{Converted, convertible, converted}

pub data ClearTable (choice : ℕ) (x : Sheet) (r : Cleared) : Type 0 where
  -- 1: a length, or the choice; "nothing changed"
  lengths : sheet_lengths (length x.rows) (length x.names) && leb choice 1 ≡ false → r ≡ record { answer = record { number = bad_length; place = 0 }; sheet = x }
      → ClearTable choice x r
  -- 0: the cleared sheet, of the same lengths
  cleared : sheet_lengths (length x.rows) (length x.names) && leb choice 1 ≡ true
      → r ≡ record { answer = record { number = accepted; place = 0 }; sheet = sheet_of (first_state (eqb choice 1)) (length x.rows) (length x.names) }
      → ClearTable choice x r

pub data ConvertTable (x : Sheet) (r : Converted) : Type 0 where
  -- 1: a length; "nothing changed"
  lengths : sheet_lengths (length x.rows) (length x.names) ≡ false → r ≡ converted bad_length x → ConvertTable x r
  -- 2: "for any other fault"; "nothing changed"
  fault : sheet_lengths (length x.rows) (length x.names) ≡ true → convertible x ≡ false → r ≡ converted not_good x → ConvertTable x r
  -- 0: the count is filled in
  filled : sheet_lengths (length x.rows) (length x.names) ≡ true → convertible x ≡ true → r ≡ converted accepted (with_count (count_of (state_of x)) x) → ConvertTable x r
