-- `ir_write::put_roots` meets its contract. The invariant: all elements are added where those from the place at hand on are (`Onward`). Assumes nothing.
use Rattle.ir_rows.specs.Lowered.{root_rows}
use Rattle.ir_rows.specs.Parts.{part_rows}
use Rattle.ir_append.proofs.Laws.Onward.{Onward}
use Rattle.ir_write.proofs.put_roots.Given as goal

abbrev pub invariant-loop-place : goal.invariant-loop-place
invariant-loop-place l = Onward l.initial.writer (root_rows (part_rows l.part 2)) l.writer (root_rows (part_rows l.part l.place))
