-- `xsd_write::put::Writer::put_simple` meets its contract: the name, and behind it the base. Assumes nothing.
use Rattle.text.specs.Text.{bytes}
use Rattle.xml.specs.Written.{written_attributes}
use Rattle.xsd_written.specs.Schema.{attr}
use Rattle.xsd_written.specs.ByRows.{attribute_text}
use Rattle.xsd_write.specs.Texts.{quoted_value}
use Rattle.xsd_write.proofs.Laws.Puts.{writes_then}
use Rattle.xsd_write.proofs.put.Writer.put_simple.Goals as goal

pub returns : goal.returns
unfolding attribute_text written_attributes attr bytes quoted_value
returns c =
    rw (← c.first_text.ensures) (writes_then c.put_value.ensures c.put_base.ensures)
