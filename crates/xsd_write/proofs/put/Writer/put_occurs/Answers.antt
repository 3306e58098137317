-- `xsd_write::put::Writer::put_occurs` meets its contract: minOccurs, and behind it maxOccurs. Assumes nothing.
use Rattle.sheet.specs.Rows.{unpack_row}
use Rattle.text.specs.Text.{bytes}
use Rattle.xml.specs.Written.{written_attributes}
use Rattle.xsd_written.specs.Schema.{attr}
use Rattle.xsd_written.specs.ByRows.{attribute_text, occurs_text}
use Rattle.xsd_write.specs.Texts.{quoted_value}
use Rattle.xsd_write.proofs.Laws.Puts.{writes_then}
use Rattle.xsd_write.proofs.put.Writer.put_occurs.Goals as goal

pub returns : goal.returns
unfolding occurs_text unpack_row attribute_text written_attributes attr bytes quoted_value
returns c = writes_then c.put_number.ensures c.put_max.ensures
