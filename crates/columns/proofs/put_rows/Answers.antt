-- `columns::put_rows` meets its contract: as many rows as the source has are all that the target has. Assumes nothing.
use Rattle.std.proofs.Common.{◌≡◌, ◌*◌, ◌/◌, ◌∙◌, length, arith}
use Rattle.columns.specs.Columns.{rows_of_columns}
use Rattle.columns.proofs.Laws.Filled.{filled-all}
use Rattle.columns.proofs.Laws.Rests.{rows_from}
use Rattle.columns.proofs.put_rows.Goals as goal

pub loop-r-init : goal.loop-r-init
loop-r-init c =
    let sized = c.requires in
    let long : length c.put_four_of_rows-3.new.out ≡ 10 * c.args.height = c.put_four_of_rows-3.ensures.1 ∙ c.put_four_of_rows-2.ensures.1 ∙ c.put_four_of_rows.ensures.1 ∙ sized.target_long in
    (long, rows_from _ _ (c.args.height / 4 * 4) (omega (arith, long)) c.put_four_of_rows-3.ensures.0)

pub returns : goal.returns
unfolding rows_of_columns
returns c =
    let inv = c.loop-r.invariant in
    let sized = c.requires in
    filled-all _ _ inv.1 (omega (arith, sized.source_long)) (omega (arith, sized.source_long, inv.0))
