-- `printing::numbers_of` meets its contract: the loop ends behind the last four bytes, or where the marks do. Assumes nothing.
use Rattle.std.proofs.Common.{◌≡◌, take, map, sym, ap, ◌∙◌, arith}
use Rattle.std.specs.Int.{from_le_bytes, w32}
use Rattle.printing.specs.Print.{numbers_read}
use Rattle.printing.proofs.Laws.Print.{take-min}
use Rattle.printing.proofs.numbers_of.Goals as goal

pub returns : goal.returns
unfolding numbers_read
returns c =
    let fours = c.as_chunks.result.0.now in
    let at = c.loop-at.at in
    let end : at ≡ c.min-count.result = omega (arith, c.loop-at.auto.at-end, c.loop-at-test.false) in
    let some = c.min-count.ensures in
    ap (λ n. take n c.loop-at.space) (sym end) ∙ c.loop-at.invariant.1
    ∙ ap (map (from_le_bytes w32)) (ap (λ n. take n fours) (end ∙ some) ∙ take-min c.args.count fours ∙ ap (take c.args.count) c.as_chunks.ensures.front)
