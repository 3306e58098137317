-- `ir_write::put_children` meets its contract. The invariant: the children from the first place on are added where those from the place at hand on are (`Onward`). Assumes nothing.
use Prim.Native.Nat.{ℕ, ◌+◌, ◌*◌, ◌<◌}
use mathlib.Core.Path.{◌≡◌, sym, ap, ◌∙◌}
use mathlib.Core.Bool.{Bool, false}
use mathlib.Core.List.{◌++◌}
use lib.ListN.{get_or}
use Rattle.xsd_types.specs.Good.{is_head}
use Rattle.rows.specs.declared.part.SheetPart.{SheetPart}
use Rattle.ir_rows.specs.Lowered.{lowered_row, child_rows}
use Rattle.ir_rows.specs.Parts.{part_row, part_rows}
use Rattle.ir_append.proofs.Laws.Onward.{onward-step, onward-end, onward-full}
use Rattle.ir_write.proofs.Laws.Rest.{children-end, children-head, children-on}
use Rattle.ir_write.proofs.put_children.Goals as goal

-- the rest is the row at hand, which is no head, and what is behind it
on : (part : SheetPart) (place : ℕ) (code_enum : Bool) {tag : ℕ} {head : Bool} → place < part.end → head ≡ is_head tag → tag ≡ get_or part.rows.now (10 * place) 0 → head ≡ false
    → child_rows code_enum (part_rows part place) ≡ lowered_row code_enum (part_row part place) ++ child_rows code_enum (part_rows part (place + 1))
on part place code_enum inside e t none = children-on part place code_enum inside (sym (e ∙ ap is_head t) ∙ none)

pub returns-then-is_head : goal.returns-then-is_head
returns-then-is_head c =
    let a = c.args in
    onward-end c.loop-place.invariant (children-head a.part.now c.loop-place.place a.children.code_enum c.loop-place-test.true (sym (c.is_head.ensures ∙ ap is_head c.tag.ensures) ∙ c.if-is_head.true))

pub returns-in_err-put_lowered : goal.returns-in_err-put_lowered
returns-in_err-put_lowered c =
    let a = c.args in
    rw c.from_residual.ensures (onward-full _ c.loop-place.invariant
    (on a.part.now c.loop-place.place a.children.code_enum c.loop-place-test.true c.is_head.ensures c.tag.ensures c.if-is_head.false) c.in_err-put_lowered.ensures)

pub loop-place-preserved : goal.loop-place-preserved
loop-place-preserved c =
    let a = c.args in
    onward-step c.loop-place.invariant
    (on a.part.now c.loop-place.place a.children.code_enum c.loop-place-test.true c.is_head.ensures c.tag.ensures c.if-is_head.false) c.in_ok-put_lowered.ensures

pub returns : goal.returns
returns c =
    let a = c.args in
    onward-end c.loop-place.invariant (children-end a.part.now c.loop-place.place a.children.code_enum c.loop-place-test.false)
