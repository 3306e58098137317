-- `xsd_write::put::Writer::put_child` meets its contract: each arm puts what its tag says. Assumes nothing.
use mathlib.Core.Path.{sym, ◌∙◌}
use borrow.Author.Tests.{eq-eqb, ne_eqb}
use Rattle.sheet.specs.Rows.{unpack_row}
use Rattle.xsd_write.specs.Texts.{as_row}
use Rattle.xsd_write.proofs.Laws.Rows.{child-facet, child-occurs, child-variant, child-attribute}
use Rattle.xsd_write.proofs.put.Writer.put_child.Goals as goal

pub returns-then-in_range : goal.returns-then-in_range
unfolding unpack_row
returns-then-in_range c =
    let a = c.args in
    rw (child-facet (as_row a.row) (sym c.in_range.ensures ∙ c.if-in_range.true)) c.put_facet.ensures

pub returns-then-in_range-2 : goal.returns-then-in_range-2
unfolding unpack_row
returns-then-in_range-2 c =
    let a = c.args in
    rw (child-occurs (as_row a.row) (sym c.in_range.ensures ∙ c.if-in_range.false) (sym c.in_range-else-in_range.ensures ∙ c.if-in_range-2.true))
    c.put_occurring.ensures

pub returns-then-tag-eq-CHOICE_VARIANT : goal.returns-then-tag-eq-CHOICE_VARIANT
unfolding unpack_row
returns-then-tag-eq-CHOICE_VARIANT c =
    let a = c.args in
    rw (child-variant (as_row a.row) (sym c.in_range.ensures ∙ c.if-in_range.false) (sym c.in_range-else-in_range.ensures ∙ c.if-in_range-2.false)
    (eq-eqb a.row.numbers.tag 19 c.if-tag-eq-CHOICE_VARIANT.true)) c.put_element.ensures

pub returns-else-tag-eq-CHOICE_VARIANT : goal.returns-else-tag-eq-CHOICE_VARIANT
unfolding unpack_row
returns-else-tag-eq-CHOICE_VARIANT c =
    let a = c.args in
    rw (child-attribute (as_row a.row) (sym c.in_range.ensures ∙ c.if-in_range.false) (sym c.in_range-else-in_range.ensures ∙ c.if-in_range-2.false)
    (ne_eqb a.row.numbers.tag 19 c.if-tag-eq-CHOICE_VARIANT.false)) c.put_attribute.ensures
