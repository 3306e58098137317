-- `xsd_write::put::Writer::put_body` meets its contract: the end of the first tag, the rows and the last tag, one behind the other. Assumes nothing.
use Rattle.text.specs.Text.{bytes}
use Rattle.xsd_write.proofs.Laws.Puts.{writes_then}
use Rattle.xsd_write.proofs.put.Writer.put_body.Goals as goal

pub returns : goal.returns
unfolding bytes
returns c = writes_then c.put.ensures
    (writes_then c.put_rows.ensures c.put-2.ensures)
