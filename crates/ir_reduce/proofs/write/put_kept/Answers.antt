-- `ir_reduce::write::put_kept` meets its contract. The invariant: where the kept rows from the place at hand on are added, all are (`Onward`). Assumes nothing.
use Prim.Native.Nat.{ℕ, ◌+◌, ◌-◌, ◌*◌, ◌<◌}
use mathlib.Core.Path.{sym, ◌≡◌, ap, ◌∙◌}
use mathlib.Core.Bool.{Bool, true, false}
use mathlib.Core.List.{List, ◌++◌}
use native.Mathlib.Omega.{arith}
use lib.ListN.{get_or}
use Rattle.rows.specs.declared.part.SheetPart.{SheetPart}
use Rattle.ir_append.proofs.Laws.Grows.{grows_none}
use Rattle.ir_append.proofs.Laws.Onward.{onward-step, onward-end, onward-full}
use Rattle.ir_reduce.specs.Places.{keeps, one_if, kept_rows}
use Rattle.ir_reduce.specs.Parts.{part_row}
use Rattle.ir_reduce.proofs.Laws.Kept.{kept_next, kept-none}
use Rattle.ir_reduce.proofs.write.put_kept.Goals as goal
use Rattle.ir_reduce.proofs.write.put_kept.Goals.{then-kept+in_ok-append_same, else-kept}

-- the rest is the row at hand, where it is kept, and what is behind it
on : (part : SheetPart) (marks : List ℕ) (before : Bool) (place : ℕ) {tag : ℕ} {kept : Bool} → place < part.end → kept ≡ keeps before tag (get_or marks place 0)
    → tag ≡ get_or part.rows.now (10 * place) 0 → kept_rows (part_row part) marks before place (part.end - place)
    ≡ one_if kept (part_row part place) ++ kept_rows (part_row part) marks kept (place + 1) (part.end - (place + 1))
on part marks before place inside e t =
    rw (e ∙ ap (λ (x : ℕ). keeps before x (get_or marks place 0)) t) (kept_next part.rows.now part.names.now marks before place part.end inside)

pub append_same-requires : goal.append_same-requires
append_same-requires c =
    (c.requires.2 c.loop-place.place (omega (arith, c.loop-place.auto.place)) (omega (arith, c.loop-place-test.true)), c.loop-place-test.true)

pub returns-in_err-append_same : goal.returns-in_err-append_same
returns-in_err-append_same c =
    let loop = c.loop-place in
    let kept = sym c.if-kept.true ∙ c.keeps_row-kept.ensures in
    rw c.from_residual.ensures (onward-full _ loop.invariant (on c.args.part.now c.args.marks.now loop.kept loop.place c.loop-place-test.true kept c.tag.ensures) c.in_err-append_same.ensures)

pub loop-place-preserved : goal.loop-place-preserved
loop-place-preserved c =
    let loop = c.loop-place in
    let rest = λ (kept : Bool) (e : kept ≡ keeps loop.kept c.tag.result (get_or c.args.marks.now loop.place 0)).
    on c.args.part.now c.args.marks.now loop.kept loop.place c.loop-place-test.true e c.tag.ensures in
    elim c.if-kept.branch [
      | then-kept+in_ok-append_same w ↦ rw (w.writer-is, w.if-kept.true) (onward-step loop.invariant (rest true (sym w.if-kept.true ∙ c.keeps_row-kept.ensures)) w.in_ok-append_same.ensures)
      | else-kept w ↦ rw (w.writer-is, w.if-kept.false) (onward-step loop.invariant (rest false (sym w.if-kept.false ∙ c.keeps_row-kept.ensures)) (grows_none {u = tt}))
    ]

pub returns : goal.returns
returns c =
    let part = c.args.part.now in
    onward-end c.loop-place.invariant (kept-none part.rows.now part.names.now c.args.marks.now c.loop-place.kept c.loop-place.place part.end c.loop-place-test.false)
