-- The rows of a schema sheet by their places. Row 0 is at place 0.
--     row_at rows names p          the row at place p, with its texts
--     rows_from rows names p end   the rows from place p up to place end
use Rattle.std.specs.Prelude.{ℕ, ◌-◌, ◌*◌, List, map, drop}
use Rattle.sheet.specs.Rows.{Row, ten, tens, unpack_row}
use Rattle.xsd_types.specs.Good.{used_pairs}

unfoldable pub row_at : List ℕ → List ℕ → ℕ → Row
row_at rows names p = unpack_row used_pairs names (ten (drop (10 * p) rows))

unfoldable pub rows_from : List ℕ → List ℕ → ℕ → ℕ → List Row
rows_from rows names p end = map (unpack_row used_pairs names) (tens (end - p) (drop (10 * p) rows))
