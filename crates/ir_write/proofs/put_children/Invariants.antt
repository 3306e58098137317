-- `ir_write::put_children` meets its contract. The invariant: the children from the first place on are added where those from the place at hand on are (`Onward`). Assumes nothing.
use Prim.Native.Nat.{ℕ}
use Rattle.ir_rows.specs.Lowered.{child_rows}
use Rattle.ir_rows.specs.Parts.{part_rows}
use Rattle.ir_append.proofs.Laws.Onward.{Onward}
use Rattle.ir_write.proofs.put_children.Given as goal

abbrev pub invariant-loop-place : goal.invariant-loop-place
invariant-loop-place l =
    let rows = λ (place : ℕ). child_rows l.fn.children.code_enum (part_rows l.part place) in
    Onward l.initial.writer (rows l.fn.children.first) l.writer (rows l.place)
