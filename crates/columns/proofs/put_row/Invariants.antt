-- `columns::put_row`: the target is filled up to column c of the row.
use Rattle.std.proofs.Common.{◌≡◌, ◌+◌, length}
use Rattle.columns.specs.Columns.{row_number_at}
use Rattle.columns.specs.Filled.{Filled}
use Rattle.columns.proofs.put_row.Given as goal

abbrev pub invariant-loop-c : goal.invariant-loop-c
invariant-loop-c l = (length l.out ≡ length l.initial.out) × Filled (row_number_at l.columns) (l.from + l.c) l.out
