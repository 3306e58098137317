-- `columns::put_rest`: column c is written up to row r, the columns before it as a whole, and all as far as squares reach.
use Rattle.std.proofs.Common.{◌≡◌, ◌+◌, length}
use Rattle.columns.specs.Columns.{changed}
use Rattle.columns.specs.Filled.{by_column, fours, Corner}
use Rattle.columns.proofs.put_rest.Given as goal

abbrev pub invariant-loop-r : goal.invariant-loop-r
invariant-loop-r l =
    (length l.out ≡ length l.initial.out) × Corner (by_column l.height) (changed l.rows) l.c l.height l.out × Corner (by_column l.height) (changed l.rows) 10 (fours l.height) l.out
    × Corner (by_column l.height) (changed l.rows) (l.c + 1) l.r l.out
