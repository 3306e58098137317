-- The lengths of buffers beside what row 0 of a sheet says is used.
--     parts_fit      the used parts lie inside buffers of the given lengths
use Rattle.std.specs.Prelude.{ℕ, Bool, ◌&&◌, leb}
use Rattle.sheet.specs.Lengths.{fits}

-- `used_parts` of the crate `sheet`, of two numbers of row 0 and two lengths
unfoldable pub parts_fit : ℕ → ℕ → ℕ → ℕ → Bool
parts_fit rows_used names_used rows names = leb 2 rows_used && fits rows_used names_used rows names
