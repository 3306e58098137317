-- `xsd_write::put::Writer::put_value` meets its contract: the quotes are those that the value lacks. Assumes nothing.
use mathlib.Core.Path.{sym, ◌∙◌}
use Rattle.xml.specs.Written.{quote_of}
use Rattle.xsd_write.specs.Texts.{quoted_value}
use Rattle.xsd_write.proofs.Laws.Puts.{writes_then}
use Rattle.xsd_write.proofs.put.Writer.put_value.Goals as goal

pub returns-then-has_byte : goal.returns-then-has_byte
unfolding quoted_value quote_of
returns-then-has_byte c =
    rw (sym c.has_byte.ensures ∙ c.if-has_byte.true) (writes_then c.put.ensures c.put_between.ensures)

pub returns-else-has_byte : goal.returns-else-has_byte
unfolding quoted_value quote_of
returns-else-has_byte c =
    rw (sym c.has_byte.ensures ∙ c.if-has_byte.false) (writes_then c.put.ensures c.put_between-else-has_byte.ensures)
