-- `xsd_write::put::Writer::put_between` meets its contract: three texts, one behind the other. Assumes nothing.
use Rattle.xsd_write.proofs.Laws.Puts.{writes_then}
use Rattle.xsd_write.proofs.put.Writer.put_between.Goals as goal

pub returns : goal.returns
returns c =
    writes_then c.put.ensures (writes_then c.put-2.ensures c.put-3.ensures)
