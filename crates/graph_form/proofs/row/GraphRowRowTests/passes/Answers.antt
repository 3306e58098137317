-- The tests of a graph sheet's row meet their contract: where its numbers and its place pass, what the table tells of its pairs is what the definitions ask.
-- Assumes nothing.
use mathlib.Core.Path.{refl, sym, ap, ◌∙◌}
use Rattle.text.proofs.Laws.Tests.{and-true-left}
use Rattle.rows.specs.Ten.{as_ten}
use Rattle.ir_types.specs.Form.{used_pairs}
use Rattle.graph_form.specs.declared.rules.Rule.{Rule}
use Rattle.graph_form.proofs.Laws.Rules.{told_a, form-tag, form-flag, first-small, second-small, third-small, first-told, second-told, third-told}
use Rattle.graph_form.proofs.row.GraphRowRowTests.passes.Goals as goal

pub returns-then-not-row_form-may_follow : goal.returns-then-not-row_form-may_follow
returns-then-not-row_form-may_follow c = rw (← c.row_form.ensures, ← c.may_follow.ensures, c.if-not-row_form-may_follow.true) refl

pub rule_of-rule-requires : goal.rule_of-rule-requires
rule_of-rule-requires c = form-tag (as_ten c.args.t) (sym c.row_form.ensures ∙ and-true-left c.row_form.result c.may_follow.result c.if-not-row_form-may_follow.false)

pub pairs_by-requires : goal.pairs_by-requires
pairs_by-requires c =
    let t = c.args.t in
    let r = c.rule_of-rule.ensures in
    let k = told_a t.a in
    (rw r (first-small t.tag k), rw r (second-small t.tag k), rw r (third-small t.tag k), c.requires)

pub returns : goal.returns
returns c =
    let t = c.args.t in
    let r = c.rule_of-rule.ensures in
    let flag = form-flag (as_ten t) (sym c.row_form.ensures ∙ and-true-left c.row_form.result c.may_follow.result c.if-not-row_form-may_follow.false) in
    rw (← c.row_form.ensures, ← c.may_follow.ensures, c.if-not-row_form-may_follow.false)
    (c.pairs_by.ensures used_pairs (ap (λ (q : Rule). q.first) r ∙ first-told t.tag t.a flag) (ap (λ (q : Rule). q.second) r ∙ second-told t.tag t.a flag)
    (ap (λ (q : Rule). q.third) r ∙ third-told t.tag t.a flag))
