-- `ir_reduce::index::put_targets` meets its contract. The invariant: the targets of the rows before the place at hand are stored. Assumes nothing.
use Rattle.ir_reduce.specs.Index.{TargetsPut}
use Rattle.ir_reduce.proofs.index.put_targets.Given as goal

abbrev pub invariant-loop-place : goal.invariant-loop-place
invariant-loop-place l = TargetsPut l.part.rows.now l.part.names.now l.part.end l.place l.to
