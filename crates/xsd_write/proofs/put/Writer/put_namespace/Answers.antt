-- `xsd_write::put::Writer::put_namespace` meets its contract: a value where a is 1, nothing else. Assumes nothing.
use borrow.Author.Tests.{eq-eqb, ne_eqb}
use Rattle.sheet.specs.Rows.{unpack_row}
use Rattle.text.specs.Text.{bytes}
use Rattle.xml.specs.Written.{written_attributes}
use Rattle.xsd_written.specs.Schema.{attr}
use Rattle.xsd_written.specs.ByRows.{attribute_text, any_text}
use Rattle.xsd_write.specs.Texts.{quoted_value}
use Rattle.xsd_write.proofs.Laws.Puts.{writes_none}
use Rattle.xsd_write.proofs.put.Writer.put_namespace.Goals as goal

pub returns-then-row-eq1 : goal.returns-then-row-eq1
unfolding any_text unpack_row attribute_text written_attributes attr bytes quoted_value
returns-then-row-eq1 c =
    let a = c.args in
    rw (eq-eqb a.row.numbers.a 1 c.if-row-eq1.true, ← c.second_text.ensures) c.put_value.ensures

pub returns-else-row-eq1 : goal.returns-else-row-eq1
unfolding any_text unpack_row
returns-else-row-eq1 c =
    let a = c.args in
    rw (ne_eqb a.row.numbers.a 1 c.if-row-eq1.false) (writes_none a.self.now)
