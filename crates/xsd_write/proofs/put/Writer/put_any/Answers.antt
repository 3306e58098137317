-- `xsd_write::put::Writer::put_any` meets its contract: the opening, the namespace and the end of an empty tag, one behind the other. Assumes nothing.
use Rattle.text.specs.Text.{bytes}
use Rattle.xsd_write.proofs.Laws.Puts.{writes_then}
use Rattle.xsd_write.proofs.put.Writer.put_any.Goals as goal

pub returns : goal.returns
unfolding bytes
returns c = writes_then c.put.ensures
    (writes_then c.put_namespace.ensures c.put-2.ensures)
