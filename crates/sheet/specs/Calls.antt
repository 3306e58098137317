-- What the contracts of the outer calls say of two buffers and of an answer. Paper 01, "Returned numbers": a number and a place.
--     sheet         two buffers as a sheet
--     answered      a number and a place as an answer
use Rattle.std.specs.Prelude.{ℕ, List}
use Rattle.sheet.specs.Rows.{Sheet}
use Rattle.sheet.specs.Lengths.{Answer}

abbrev pub sheet : List ℕ → List ℕ → Sheet
sheet rows names = record { rows = rows; names = names }

abbrev pub answered : ℕ → ℕ → Answer
answered number place = record { number = number; place = place }
