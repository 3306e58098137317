-- `columns::put_rows`: behind the squares r rows are written, each of ten numbers.
use Rattle.std.proofs.Common.{◌≡◌, ◌*◌, length}
use Rattle.columns.specs.Columns.{row_number_at}
use Rattle.columns.specs.Filled.{Filled}
use Rattle.columns.proofs.put_rows.Given as goal

abbrev pub invariant-loop-r : goal.invariant-loop-r
invariant-loop-r l = (length l.out ≡ 10 * l.height) × Filled (row_number_at l.columns) (10 * l.r) l.out
