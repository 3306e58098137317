-- Order 7's conversion: "takes sheets with 0 there, or the right count, and fills it in; it gives 1, or 2 for any other fault, and then changes nothing".
--     Converted     a conversion's answer and the sheet afterwards
--     convertible   with 0 for the count the sheet is good by all other sentences, and the count is 0 or right
--     convert       the call; ConvertIs: what it says of itself
use Rattle.std.specs.Prelude.{ℕ, ◌≡◌, Bool, ◌&&◌, ◌||◌, eqb, length, if◌then◌else◌}
use Rattle.sheet.specs.Rows.{Sheet}
use Rattle.sheet.specs.Lengths.{sheet_lengths, Answer}
use Rattle.sheet.specs.Returned.{accepted, bad_length, not_good}
use Rattle.xsd_types.specs.Good.{bare_good}
use Rattle.xsd_types.specs.Count.{count_of, count_in, with_count, bare, state_of}

pub record Converted : Type 0 where
  pub answer : Answer
  pub sheet : Sheet

unfoldable pub convertible : Sheet → Bool
convertible x = bare_good (bare x) && (eqb (count_in x) 0 || eqb (count_in x) (count_of (state_of x)))

-- the number, place 0, and the sheet
abbrev pub converted : ℕ → Sheet → Converted
converted number x = record { answer = record { number = number; place = 0 }; sheet = x }

unfoldable pub convert : Sheet → Converted
convert x =
    if sheet_lengths (length x.rows) (length x.names)
    then if convertible x then converted accepted (with_count (count_of (state_of x)) x) else converted not_good x
    else converted bad_length x

-- what a conversion says of itself: number, place and the sheet afterwards are the definition's
abbrev pub ConvertIs : Sheet → Answer → Sheet → Type 0
ConvertIs before answer after = ◌≡◌ {A = Converted} (record { answer = answer; sheet = after }) (convert before)
