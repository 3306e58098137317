-- `ir_label::words::word_start` meets its contract. Assumes nothing.
use Rattle.std.proofs.Common.{◌≡◌, ◌+◌, ◌-◌, ◌∙◌, arith}
use Rattle.ir_types.specs.Label.{word_at}
use Rattle.ir_label.proofs.Laws.Start.{start-next}
use Rattle.ir_label.proofs.words.word_start.Goals as goal

pub overflow_add-at : goal.overflow_add-at
overflow_add-at c =
    let next = start-next c.args.words.now (c.args.n - c.loop.counter) c.loop.at _ (omega arith) c.loop.invariant.1 c.line_end-at.ensures in
    omega (arith, next.inside)

pub loop-preserved : goal.loop-preserved
loop-preserved c =
    let left = c.args.n - c.loop.counter in
    let one : c.args.n - (c.loop.counter + 1) ≡ left - 1 = omega arith in
    let next = start-next c.args.words.now left c.loop.at _ (omega arith) c.loop.invariant.1 c.line_end-at.ensures in
    (next.inside, rw one next.fewer, rw one (next.starts ∙ c.loop.invariant.2))

pub returns : goal.returns
unfolding word_at
returns c =
    let none : c.args.n - c.loop.counter ≡ 0 = omega arith in
    let e = rw none at c.loop.invariant.2 in
    omega (arith, e)
