-- `xsd_write::put::Writer::put_use` meets its contract: `use` where a is 1, nothing else. Assumes nothing.
use borrow.Author.Tests.{eq-eqb, ne_eqb}
use Rattle.text.specs.Text.{bytes, contains}
use Rattle.sheet.specs.Rows.{unpack_row}
use Rattle.xml.specs.Written.{written_attributes, quote_of}
use Rattle.xsd_written.specs.Schema.{attr}
use Rattle.xsd_written.specs.ByRows.{attribute_text, use_text}
use Rattle.xsd_write.proofs.Laws.Puts.{writes_none}
use Rattle.xsd_write.proofs.put.Writer.put_use.Goals as goal

pub returns-then-row-eq1 : goal.returns-then-row-eq1
unfolding use_text unpack_row attribute_text written_attributes attr bytes quote_of contains
returns-then-row-eq1 c = rw (eq-eqb c.args.row.numbers.a 1 c.if-row-eq1.true)
    c.put.ensures

pub returns-else-row-eq1 : goal.returns-else-row-eq1
unfolding use_text unpack_row
returns-else-row-eq1 c =
    let a = c.args in
    rw (ne_eqb a.row.numbers.a 1 c.if-row-eq1.false) (writes_none a.self.now)
