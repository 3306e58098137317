-- `xsd_write::put::Writer::put_max` meets its contract: the bound, or `unbounded`, by the tag. Assumes nothing.
use borrow.Author.Tests.{eq-eqb, ne_eqb}
use Rattle.text.specs.Text.{bytes, contains}
use Rattle.sheet.specs.Rows.{unpack_row}
use Rattle.xml.specs.Written.{written_attributes, quote_of}
use Rattle.xsd_written.specs.Schema.{attr}
use Rattle.xsd_written.specs.ByRows.{attribute_text}
use Rattle.xsd_write.specs.Texts.{as_row, quoted_value}
use Rattle.xsd_write.proofs.Laws.Rows.{max-bound, max_none}
use Rattle.xsd_write.proofs.put.Writer.put_max.Goals as goal

pub returns-then-row-eq-BOUND_ELEMENT : goal.returns-then-row-eq-BOUND_ELEMENT
unfolding unpack_row attribute_text written_attributes attr bytes quoted_value
returns-then-row-eq-BOUND_ELEMENT c =
    let a = c.args in
    rw (max-bound (as_row a.row) (eq-eqb a.row.numbers.tag 17 c.if-row-eq-BOUND_ELEMENT.true)) c.put_number.ensures

pub returns-else-row-eq-BOUND_ELEMENT : goal.returns-else-row-eq-BOUND_ELEMENT
unfolding unpack_row attribute_text written_attributes attr bytes quote_of contains
returns-else-row-eq-BOUND_ELEMENT c =
    let a = c.args in
    rw (max_none (as_row a.row) (ne_eqb a.row.numbers.tag 17 c.if-row-eq-BOUND_ELEMENT.false)) c.put.ensures
