-- `columns::put_row` meets its contract: the wrapping sum of the number above and the column's is the row's next number. Assumes nothing.
use Rattle.std.proofs.Common.{◌≡◌, ◌+◌, ◌*◌, ◌%◌, ◌<◌, get_or, refl, ◌∙◌, add_assoc, arith, length-set}
use Rattle.columns.specs.Columns.{modulus, plus, row_number_at}
use Rattle.columns.proofs.Laws.Filled.{filled_more, row_number}
use Rattle.columns.proofs.put_row.Goals as goal

pub loop-c-preserved : goal.loop-c-preserved
unfolding plus
loop-c-preserved c =
    let inv = c.loop-c.invariant in
    let k = c.loop-c.c in
    let h = c.args.height in
    let r = c.args.r in
    let place = 10 * r + k in
    let columns = c.args.columns.now in
    let small : get_or columns (k * h + r) 0 < modulus = omega (arith, c.type_inv.columns (k * h + r)) in
    let number = row_number columns _ h k r _ c.requires.0.source_long (omega arith) refl inv.1 small in
    let value : (c.above_in-above.result + get_or columns (k * h + r) 0) % modulus ≡ row_number_at columns place = rw c.above_in-above.ensures number in
    let more = filled_more inv.1 (omega (arith, c.requires.0.target_long, inv.0)) _ value in
    (length-set c.loop-c.out place _ ∙ inv.0, (rw (← add_assoc (10 * r) k 1) more))
