-- `ir_label::words::five_words` meets its contract. Assumes nothing.
use Rattle.std.proofs.Common.{◌≡◌, ◌+◌, ◌-◌, sym, ◌∙◌, arith}
use Rattle.ir_label.proofs.Laws.Good.{good-five, good-next, good-stop, good-end}
use Rattle.ir_label.proofs.words.five_words.Goals as goal

pub loop-init : goal.loop-init
loop-init c = (omega arith, good-five c.args.words.now)

pub returns-then-words-end : goal.returns-then-words-end
returns-then-words-end c =
    let s = c.args.words.now in
    sym (good-stop (5 - c.loop.counter) s c.loop.at _ (omega arith) c.line_end-end.ensures c.if-words-end.true) ∙ c.loop.invariant.1

pub loop-preserved : goal.loop-preserved
loop-preserved c =
    let s = c.args.words.now in
    let left = 5 - c.loop.counter in
    let one : 5 - (c.loop.counter + 1) ≡ left - 1 = omega arith in
    let next = good-next left s c.loop.at _ (omega arith) c.line_end-end.ensures c.if-words-end.false in
    (omega arith, rw one (sym next ∙ c.loop.invariant.1))

pub returns : goal.returns
returns c =
    let s = c.args.words.now in
    let none : 5 - c.loop.counter ≡ 0 = omega arith in
    sym (good-end s c.loop.at) ∙ rw none at c.loop.invariant.1
