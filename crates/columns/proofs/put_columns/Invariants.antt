-- `columns::put_columns`: c columns are written, and the others as far as squares reach.
use Rattle.std.proofs.Common.{◌≡◌, ◌*◌, length}
use Rattle.columns.specs.Columns.{changed}
use Rattle.columns.specs.Filled.{by_column, fours, Corner}
use Rattle.columns.proofs.put_columns.Given as goal

abbrev pub invariant-loop-c : goal.invariant-loop-c
invariant-loop-c l =
    (length l.out ≡ 10 * l.height) × Corner (by_column l.height) (changed l.rows) l.c l.height l.out × Corner (by_column l.height) (changed l.rows) 10 (fours l.height) l.out
