-- `columns::to_rows` meets its contract: 1 by the lengths, else what `put_rows` writes. Assumes nothing.
use Rattle.std.proofs.lemmas.Result.{err_from_is_err_and}
use Rattle.columns.specs.Columns.{rows_of_columns}
use Rattle.columns.proofs.Laws.Calls.{turned-not, turned-to}
use Rattle.columns.proofs.to_rows.Goals as goal

pub returns-in_err-height : goal.returns-in_err-height
returns-in_err-height c =
    let p = err_from_is_err_and c.from_residual.result c.from_residual.ensures.1 in
    let h = c.in_err-height.ensures in
    rw (p.1, p.2, h.1) (turned-not rows_of_columns _ _ h.0)

pub returns : goal.returns
returns c = turned-to rows_of_columns _ _ _ c.in_ok-height.ensures.0 c.put_rows.ensures
