-- `xsd_good::forms::row::row_form` meets its contract: what the table tells of the numbers is what the definition asks. Assumes nothing.
use mathlib.Core.Path.{sym, ◌∙◌}
use borrow.Author.Rules.{rules}
use Rattle.xsd_good.proofs.Laws.Rules.{known-tag, form-told, form-unknown, b-small, c-small}
use Rattle.xsd_good.proofs.forms.row.row_form.Goals as goal

pub returns-then-not-in_range : goal.returns-then-not-in_range
returns-then-not-in_range c = form-unknown c.args.tag c.args.a c.args.b c.args.c (sym c.in_range.ensures ∙ c.if-not-in_range.true)

pub rule_of-rule-requires : goal.rule_of-rule-requires
rule_of-rule-requires c = known-tag c.args.tag (sym c.in_range.ensures ∙ c.if-not-in_range.false)

pub is_zero_by-requires : goal.is_zero_by-requires
is_zero_by-requires c = rw c.rule_of-rule.ensures (b-small c.args.tag)

pub is_zero_by-requires-2 : goal.is_zero_by-requires-2
is_zero_by-requires-2 c = rw c.rule_of-rule.ensures (c-small c.args.tag)

pub returns : goal.returns
returns c =
    let a = c.args in
    rw (c.is_zero_by.ensures, c.is_zero_by-2.ensures, c.rule_of-rule.ensures) (form-told a.tag a.a a.b a.c (sym c.in_range.ensures ∙ c.if-not-in_range.false) (search rules))
