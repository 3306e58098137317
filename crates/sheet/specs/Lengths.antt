-- The lengths that a call may be lent, and what the calls answer. Paper 01, "Returned numbers".
--     sheet_lengths  the lengths of a sheet's two buffers
--     tape_lengths   the lengths of a tape's two buffers
--     Lengths       the lengths of a sheet's two buffers; lengths_of: those of a sheet; good_lengths: such that no call gives 1 for them
--     fits          so many rows, row 0 among them, and so many bytes of names have room
--     Answer        a call's number and place
use Rattle.std.specs.Prelude.{ℕ, ◌*◌, ◌%◌, Bool, ◌&&◌, eqb, leb, length}
use Rattle.sheet.specs.Rows.{Sheet}
use Rattle.sheet.specs.Limits.{row_numbers}

-- 1: "a rows length not a multiple of 10, below 20 or above 40,960; names above 65,536"
unfoldable pub sheet_lengths : ℕ → ℕ → Bool
sheet_lengths rows names = eqb (rows % 10) 0 && leb 20 rows && leb rows 40960 && leb names 65536

-- 1: "tape buffers too long". "Text at most 65,536 bytes, marks at most 16,384 numbers"
unfoldable pub tape_lengths : ℕ → ℕ → Bool
tape_lengths text marks = leb text 65536 && leb marks 16384

-- the lengths of a sheet's two buffers
pub record Lengths : Type 0 where
  pub rows : ℕ
  pub names : ℕ

unfoldable pub lengths_of : Sheet → Lengths
lengths_of x = record { rows = length x.rows; names = length x.names }

unfoldable pub good_lengths : Lengths → Bool
good_lengths lent = sheet_lengths lent.rows lent.names

unfoldable pub fits : ℕ → ℕ → ℕ → ℕ → Bool
fits rows_used names_used rows_length names_length = leb (row_numbers * rows_used) rows_length && leb names_used names_length

pub record Answer : Type 0 where
  pub number : ℕ
  pub place : ℕ
