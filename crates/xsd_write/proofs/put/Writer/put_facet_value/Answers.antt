-- `xsd_write::put::Writer::put_facet_value` meets its contract: a length, a number of digits or a text, by the tag. Assumes nothing.
use mathlib.Core.Path.{sym, ◌∙◌}
use Rattle.sheet.specs.Rows.{unpack_row}
use Rattle.text.specs.Text.{bytes}
use Rattle.xml.specs.Written.{written_attributes}
use Rattle.xsd_written.specs.Schema.{attr}
use Rattle.xsd_written.specs.ByRows.{attribute_text}
use Rattle.xsd_write.specs.Texts.{as_row, quoted_value}
use Rattle.xsd_write.proofs.Laws.Rows.{value-length, value-digits, value-text}
use Rattle.xsd_write.proofs.put.Writer.put_facet_value.Goals as goal

pub returns-then-in_range : goal.returns-then-in_range
unfolding unpack_row attribute_text written_attributes attr bytes quoted_value
returns-then-in_range c =
    let a = c.args in
    rw (value-length (as_row a.row) (sym c.in_range.ensures ∙ c.if-in_range.true), ← c.joined.ensures) c.put_number.ensures

pub returns-then-in_range-2 : goal.returns-then-in_range-2
unfolding unpack_row attribute_text written_attributes attr bytes quoted_value
returns-then-in_range-2 c =
    let a = c.args in
    rw (value-digits (as_row a.row) (sym c.in_range.ensures ∙ c.if-in_range.false) (sym c.in_range-else-in_range.ensures ∙ c.if-in_range-2.true))
    c.put_number-then-in_range-2.ensures

pub returns-else-in_range-2 : goal.returns-else-in_range-2
unfolding unpack_row attribute_text written_attributes attr bytes quoted_value
returns-else-in_range-2 c =
    let a = c.args in
    rw (
      value-text (as_row a.row) (sym c.in_range.ensures ∙ c.if-in_range.false)
          (sym c.in_range-else-in_range.ensures ∙ c.if-in_range-2.false),
      ← c.first_text.ensures,
    ) c.put_value.ensures
