-- `rows::form::pair_by` meets its contract: of 0 and 1 each is tried. Assumes nothing.
use Rattle.rows.proofs.Laws.Table.{pair-by}
use Rattle.rows.proofs.form.pair_by.Goals as goal

pub returns : goal.returns
returns c =
    let a = c.args in
    rw (c.wide.ensures, c.wide-2.ensures, c.wide-3.ensures, c.wide-4.ensures) (pair-by a.used a.k a.at a.len c.requires.0)
