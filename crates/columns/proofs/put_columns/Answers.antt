-- `columns::put_columns` meets its contract: ten columns are all that the target has. Assumes nothing.
use Rattle.std.proofs.Common.{◌≡◌, arith}
use Rattle.columns.proofs.Laws.Rests.{columns_from}
use Rattle.columns.proofs.put_columns.Goals as goal

pub returns : goal.returns
returns c =
    let inv = c.loop-c.invariant in
    let e : c.loop-c.c ≡ 10 = omega arith in
    columns_from _ _ c.args.height c.requires.source_long inv.0 (rw e at inv.1)
