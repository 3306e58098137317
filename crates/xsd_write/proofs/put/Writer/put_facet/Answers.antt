-- `xsd_write::put::Writer::put_facet` meets its contract: the word, the value and the end of an empty tag, one behind the other. Assumes nothing.
use Rattle.text.specs.Text.{bytes}
use Rattle.xsd_written.specs.ByRows.{empty_text}
use Rattle.xsd_write.proofs.Laws.Puts.{writes_then}
use Rattle.xsd_write.proofs.put.Writer.put_facet.Goals as goal

pub returns : goal.returns
unfolding empty_text bytes
returns c = writes_then c.put_word.ensures
    (writes_then c.put_facet_value.ensures c.put.ensures)
