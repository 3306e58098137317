-- `xsd_write::put::Writer::put_named` meets its contract: two values, one behind the other. Assumes nothing.
use Rattle.text.specs.Text.{bytes}
use Rattle.xml.specs.Written.{written_attributes}
use Rattle.xsd_written.specs.Schema.{attr}
use Rattle.xsd_written.specs.ByRows.{attribute_text}
use Rattle.xsd_write.specs.Texts.{quoted_value, named_opening}
use Rattle.xsd_write.proofs.Laws.Puts.{writes_then}
use Rattle.xsd_write.proofs.put.Writer.put_named.Goals as goal

pub returns : goal.returns
unfolding named_opening attribute_text written_attributes attr bytes quoted_value
returns c =
    rw (← c.first_text.ensures, ← c.second_text.ensures) (writes_then c.put_value.ensures c.put_value-2.ensures)
