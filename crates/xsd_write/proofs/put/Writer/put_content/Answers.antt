-- `xsd_write::put::Writer::put_content` meets its contract: each arm puts what its tag opens. Assumes nothing.
use borrow.Author.Tests.{ne_eqb}
use Rattle.sheet.specs.Rows.{unpack_row}
use Rattle.text.specs.Text.{bytes}
use Rattle.xsd_write.specs.Texts.{as_row, content_text}
use Rattle.xsd_write.proofs.Laws.Rows.{content-extension}
use Rattle.xsd_write.proofs.put.Writer.put_content.Goals as goal

pub returns-in-12 : goal.returns-in-12
unfolding content_text unpack_row bytes
returns-in-12 c = rw c.in-12.is c.put.ensures

pub returns-in-13 : goal.returns-in-13
unfolding content_text unpack_row bytes
returns-in-13 c = rw c.in-13.is c.put-in-13.ensures

pub returns-in-14 : goal.returns-in-14
unfolding unpack_row bytes
returns-in-14 c =
    let a = c.args in
    rw (content-extension (as_row a.row) c.in-14.is) c.put_base.ensures

pub returns-in_default : goal.returns-in_default
unfolding content_text unpack_row bytes
returns-in_default c =
    let rest = c.in_default.in_default-own.rest in
    let tag = c.args.row.numbers.tag in
    rw (ne_eqb (tag) 12 rest.0.0.1, ne_eqb (tag) 13 rest.0.1, ne_eqb (tag) 14 rest.1) c.put_any.ensures
