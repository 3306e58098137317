-- `ir_reduce::write::put_kept` meets its contract. The invariant: where the kept rows from the place at hand on are added, all are (`Onward`). Assumes nothing.
use Prim.Native.Nat.{◌-◌}
use Rattle.ir_append.proofs.Laws.Onward.{Onward}
use Rattle.ir_reduce.specs.Places.{kept_rows}
use Rattle.ir_reduce.specs.Parts.{part_row, part_kept}
use Rattle.ir_reduce.proofs.write.put_kept.Given as goal

abbrev pub invariant-loop-place : goal.invariant-loop-place
invariant-loop-place l = Onward l.initial.writer (part_kept l.part l.marks) l.writer (kept_rows (part_row l.part) l.marks l.kept l.place (l.part.end - l.place))
