-- `xsd_write::put::Writer::put_head` meets its contract: each arm puts what its tag opens. Assumes nothing.
use borrow.Author.Tests.{ne_eqb}
use Rattle.sheet.specs.Rows.{unpack_row}
use Rattle.xsd_write.specs.Texts.{as_row}
use Rattle.xsd_write.proofs.Laws.Rows.{head-element, head-simple, head-complex}
use Rattle.xsd_write.proofs.put.Writer.put_head.Goals as goal

pub returns-in-2 : goal.returns-in-2
unfolding unpack_row
returns-in-2 c =
    let a = c.args in
    rw (head-element (as_row a.row) c.in-2.is) c.put_element.ensures

pub returns-in-3 : goal.returns-in-3
unfolding unpack_row
returns-in-3 c =
    let a = c.args in
    rw (head-simple (as_row a.row) c.in-3.is) c.put_simple.ensures

pub returns-in_default : goal.returns-in_default
unfolding unpack_row
returns-in_default c =
    let rest = c.in_default.in_default-own.rest in
    let a = c.args in
    let tag = a.row.numbers.tag in
    rw (head-complex (as_row a.row) (ne_eqb (tag) 2 rest.0.1) (ne_eqb (tag) 3 rest.1)) c.put_complex.ensures
