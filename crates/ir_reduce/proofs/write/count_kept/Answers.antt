-- `ir_reduce::write::count_kept` meets its contract. The invariant: the count so far and that of the kept rows from the place at hand on are that of all. Assumes nothing.
use Rattle.std.specs.Prelude.{if◌then◌else◌}
use Prim.Native.Nat.{◌+◌, ◌*◌}
use mathlib.Core.Path.{◌≡◌, ap, ◌∙◌}
use mathlib.Core.Bool.{Bool, ◌&&◌}
use native.Mathlib.Omega.{arith}
use lib.ListN.{get_or}
use Rattle.text.specs.Text.{between}
use Rattle.ir_reduce.specs.Places.{keeps}
use Rattle.ir_reduce.proofs.Laws.Kept.{kept-none, count-rest, count-end, count-bound as at_most}
use Rattle.ir_reduce.proofs.write.count_kept.Goals as goal
use Rattle.ir_reduce.proofs.write.count_kept.Goals.{then-kept-in_range, else-kept-in_range}

pub loop-place-init : goal.loop-place-init
loop-place-init c = (omega arith, λ names. omega arith)

pub loop-place-preserved : goal.loop-place-preserved
loop-place-preserved c =
    let a = c.args in
    let loop = c.loop-place in
    let tag = c.tag-tag.ensures in
    let now = c.keeps_row-kept.ensures ∙ ap (λ t. keeps loop.kept t (get_or a.marks.now loop.place 0)) tag in
    let taken : c.if-kept-in_range.n ≡ (if c.keeps_row-kept.result && c.in_range.result then loop.n + 1 else loop.n) =
    elim c.if-kept-in_range.branch [ then-kept-in_range w ↦ w.n-is ∙ rw w.if-kept-in_range.true | else-kept-in_range w ↦ w.n-is ∙ rw w.if-kept-in_range.false ] in
    let more = taken
    ∙ ap (λ (t : Bool). if c.keeps_row-kept.result && t then loop.n + 1 else loop.n)
    (c.in_range.ensures ∙ ap (between a.low a.high) tag) in (
      at_most (c.keeps_row-kept.result && between a.low a.high (get_or a.part.now.rows.now (10 * loop.place) 0)) loop.n loop.place loop.invariant.0 more,
      λ names. count-rest names a.part.now.rows.now a.marks.now a.low a.high loop.n loop.kept loop.place a.part.now.end
          c.loop-place-test.true now more ∙ loop.invariant.1 names,
    )

pub returns : goal.returns
returns c =
    let a = c.args in
    let loop = c.loop-place in record {
      fact = λ names. count-end (between a.low a.high) loop.n (kept-none a.part.now.rows.now names a.marks.now loop.kept loop.place a.part.now.end c.loop-place-test.false)
          (loop.invariant.1 names);
      upper_bound = omega (arith, loop.invariant.0, loop.auto.place-end);
    }
