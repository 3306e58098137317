-- `rows::used::row_is_text` meets its contract: the first pairs are those that are used. Assumes nothing.
use Rattle.rows.specs.Ten.{as_ten}
use Rattle.rows.proofs.Laws.Used.{used-texts}
use Rattle.rows.proofs.used.row_is_text.Goals as goal

pub returns : goal.returns
returns g c =
    used-texts g.R.RowTests.tests c.args.names.now (as_ten c.args.t) c.used_pairs-used.ensures (rw c.pair.ensures at c.pair_is_text.ensures)
    (rw c.pair-2.ensures at c.pair_is_text-2.ensures) (rw c.pair-3.ensures at c.pair_is_text-3.ensures)
