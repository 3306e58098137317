-- `ir_write::put_kind` meets its contract. The invariant: all types of the kind are added where those from the place at hand on are (`Onward`). Assumes nothing.
use Rattle.ir_append.proofs.Laws.Onward.{Onward}
use Rattle.ir_write.specs.Kinds.{kind_rows}
use Rattle.ir_write.proofs.put_kind.Given as goal

abbrev pub invariant-loop-place : goal.invariant-loop-place
invariant-loop-place l = Onward l.initial.writer (kind_rows l.part l.fn.kind 2) l.writer (kind_rows l.part l.fn.kind l.place)
