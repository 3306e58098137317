-- `rows::scan::first_row` meets its contract: the branch is taken where all tests pass. Assumes nothing.
use Rattle.rows.specs.Scan.{first_row}
use Rattle.rows.proofs.Laws.Scan.{first-passes}
use Rattle.rows.proofs.scan.first_row.Goals as goal

pub returns-then-form-row_covers : goal.returns-then-form-row_covers
unfolding first_row
returns-then-form-row_covers g c =
    let x = g.R.RowTests.tests in
    rw (first-passes x _ _ (c.row_covers.ensures x.pairs c.used_pairs.ensures) c.end_of-end.ensures c.wide.ensures c.if-form-row_covers.true, c.end_of-end.ensures)

pub returns-else-form-row_covers : goal.returns-else-form-row_covers
unfolding first_row
returns-else-form-row_covers g c =
    let x = g.R.RowTests.tests in
    rw (first-passes x _ _ (c.row_covers.ensures x.pairs c.used_pairs.ensures) c.end_of-end.ensures c.wide.ensures c.if-form-row_covers.false)
