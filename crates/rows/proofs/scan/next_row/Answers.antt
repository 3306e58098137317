-- `rows::scan::next_row` meets its contract: the branch is taken where all tests pass. Assumes nothing.
use Rattle.rows.specs.Scan.{next_row}
use Rattle.rows.proofs.Laws.Scan.{next-passes}
use Rattle.rows.proofs.scan.next_row.Goals as goal

pub returns-then-passes-end : goal.returns-then-passes-end
unfolding next_row
returns-then-passes-end g c =
    let x = g.R.RowTests.tests in
    let e = next-passes x _ _ _ c.passes.ensures c.end_of-end.ensures c.wide.ensures c.if-passes-end.true in
    rw (e, c.end_of-end.ensures, c.head_after.ensures)

pub returns-else-passes-end : goal.returns-else-passes-end
unfolding next_row
returns-else-passes-end g c =
    let x = g.R.RowTests.tests in
    rw (next-passes x _ _ _ c.passes.ensures c.end_of-end.ensures c.wide.ensures c.if-passes-end.false)
