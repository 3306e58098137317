-- `xsd_write::put::Writer::put_row` meets its contract: a head closes the one before it. Assumes nothing.
use mathlib.Core.Path.{sym, ◌∙◌}
use Rattle.sheet.specs.Rows.{unpack_row}
use Rattle.xsd_write.specs.Texts.{row_text}
use Rattle.xsd_write.proofs.Laws.Puts.{writes_then}
use Rattle.xsd_write.proofs.put.Writer.put_row.Goals as goal

pub returns-then-is_head : goal.returns-then-is_head
unfolding row_text unpack_row
returns-then-is_head c = rw (sym c.is_head.ensures
    ∙ c.if-is_head.true)
    (writes_then c.put_close.ensures c.put_head.ensures)

pub returns-else-is_head : goal.returns-else-is_head
unfolding row_text unpack_row
returns-else-is_head c = rw (sym c.is_head.ensures ∙ c.if-is_head.false) c.put_child.ensures
