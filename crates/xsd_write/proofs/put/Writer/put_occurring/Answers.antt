-- `xsd_write::put::Writer::put_occurring` meets its contract: name and type, the occurrences, and the end of an empty tag, one behind the other. Assumes nothing.
use Rattle.text.specs.Text.{bytes}
use Rattle.xml.specs.Written.{written_attributes}
use Rattle.xsd_written.specs.Schema.{attr}
use Rattle.xsd_written.specs.ByRows.{attribute_text, empty_text, named_text}
use Rattle.xsd_write.specs.Texts.{quoted_value, named_opening}
use Rattle.xsd_write.proofs.Laws.Puts.{writes_then}
use Rattle.xsd_write.proofs.put.Writer.put_occurring.Goals as goal

pub returns : goal.returns
unfolding empty_text named_text named_opening attribute_text written_attributes attr bytes quoted_value
returns c = writes_then (writes_then c.put_named.ensures
    c.put_occurs.ensures) c.put.ensures
