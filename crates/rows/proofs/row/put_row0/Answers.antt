-- `rows::row::put_row0` meets its contract: the ten numbers before the packed rows are others. Assumes nothing.
use mathlib.Core.Path.{◌≡◌}
use lib.ListN.{length}
use Rattle.rows.proofs.Laws.Write.{packs-row0}
use borrow.Author.Rules.{rules}
use Rattle.rows.proofs.row.put_row0.Goals as goal

pub returns : goal.returns
returns c =
    let put = c.put_row in
    let ten : length c.args.row ≡ 10 = search rules in
    record { rows_length = put.auto.rows; packs = λ names z rs p. packs-row0 c.args.row p ten put.ensures }
