-- `rows::row::set_row` meets its contract: it stores what `row_of` makes. Assumes nothing.

use Rattle.rows.proofs.row.set_row.Goals as goal

pub returns : goal.returns
returns c t u p q = rw (← c.row_of-row.ensures t u p q) c.put_row.ensures
