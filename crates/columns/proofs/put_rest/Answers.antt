-- `columns::put_rest` meets its contract: the wrapping difference to the number above is the column's next number. Assumes nothing.
use Rattle.std.proofs.Common.{◌≡◌, ◌+◌, ◌*◌, ◌<◌, ◌≤◌, ◌∙◌, arith, length-set}
use Rattle.columns.specs.Columns.{modulus, minus, in_row, changed}
use Rattle.columns.specs.Filled.{fours, before}
use Rattle.columns.proofs.Laws.Filled.{above-before, changed-is}
use Rattle.columns.proofs.Laws.Rests.{rest_more}
use Rattle.columns.proofs.put_rest.Goals as goal

pub loop-r-preserved : goal.loop-r-preserved
unfolding minus
loop-r-preserved c =
    let inv = c.loop-r.invariant in
    let r = c.loop-r.r in
    let rows = c.args.rows.now in
    let k = c.args.c in
    let h = c.args.height in
    let sized = c.requires.0 in
    let small : in_row rows r k < modulus = omega (arith, c.type_inv.rows (10 * r + k)) in
    let above : c.above_in-above.result ≡ before (λ i. in_row rows i k) r = c.above_in-above.ensures ∙ above-before rows k r c.requires.1 in
    let value : minus (in_row rows r k) c.above_in-above.result ≡ changed rows k r = rw above (changed-is rows k r small) in
    let behind : fours h ≤ r = omega (arith, c.loop-r.auto) in
    let more = rest_more (changed rows) h k r (fours h) c.loop-r.out _ (inv.0 ∙ sized.target_long) c.requires.1 (omega arith) behind value inv.1 inv.2 inv.3 in
    (length-set c.loop-r.out (k * h + r) _ ∙ inv.0, more.0, more.1, more.2)
