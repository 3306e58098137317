-- `columns::put_four_columns`: four columns are written as far as q squares reach, and `above` is the row above the next one, 0 at first.
use Rattle.std.proofs.Common.{◌≡◌, ◌*◌, length}
use Rattle.columns.specs.Columns.{changed}
use Rattle.columns.specs.Filled.{by_column, fours, Strip, row_above}
use Rattle.columns.proofs.put_four_columns.Given as goal

abbrev pub invariant-loop-q : goal.invariant-loop-q
invariant-loop-q l =
    (length l.out ≡ length l.initial.out) × (l.above ≡ row_above l.rows l.c (4 * l.q)) × Strip (by_column l.height) (changed l.rows) l.c (4 * l.q) (fours l.height) l.out
