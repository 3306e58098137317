-- The tests of a schema sheet's row meet their contract: where its numbers and its place pass, what the table tells of its pairs is what the definitions ask.
-- Assumes nothing.
use Rattle.std.specs.Prelude.{if◌then◌else◌}
use Prim.Native.Nat.{ℕ}
use mathlib.Core.Path.{◌≡◌, refl, sym, ap, ◌∙◌}
use mathlib.Core.Bool.{true}
use native.Mathlib.Omega.{arith}
use lib.Dec.{eqb, leb}
use Rattle.sheet.specs.Rows.{bit}
use Rattle.rows.proofs.Laws.Table.{bit-small}
use Rattle.xsd_types.specs.Good.{used_pairs, ten_form}
use Rattle.xsd_good.specs.Forms.{a_form}
use Rattle.xsd_good.specs.declared.forms.rules.Rule.{Rule}
use Rattle.xsd_good.specs.Rules.{rule_of}
use Rattle.xsd_good.proofs.Laws.Rules.{form-tag, form-flag, first-small, first-told, second-told, third-told}
use Rattle.xsd_good.proofs.forms.row.SchemaRowRowTests.passes.Goals as goal

-- the second pair is told by 0 or 1
second : (tag a : ℕ) {s : ℕ} {r : Rule} → a_form tag a ≡ true → r ≡ rule_of tag → s ≡ (if eqb tag 15 then a else r.second) → s ≡ bit (leb 2 (used_pairs tag a))
second tag a flag r s = s ∙ ap (λ (q : Rule). if eqb tag 15 then a else q.second) r ∙ second-told tag a flag

pub returns-then-not-row_form : goal.returns-then-not-row_form
unfolding ten_form
returns-then-not-row_form c = rw (← c.row_form.ensures, c.if-not-row_form.true) refl

pub returns-then-not-may_follow : goal.returns-then-not-may_follow
unfolding ten_form
returns-then-not-may_follow c = rw (← c.row_form.ensures, c.if-not-row_form.false, ← c.may_follow.ensures, c.if-not-may_follow.true) refl

pub rule_of-rule-requires : goal.rule_of-rule-requires
rule_of-rule-requires c =
    let t = c.args.t in
    form-tag t.tag t.a t.b t.c (sym c.row_form.ensures ∙ c.if-not-row_form.false)

pub pairs_by-requires : goal.pairs_by-requires
pairs_by-requires c =
    let t = c.args.t in
    let flag = form-flag t.tag t.a t.b t.c (sym c.row_form.ensures ∙ c.if-not-row_form.false) in
    let s = second t.tag t.a flag c.rule_of-rule.ensures c.second_pair.ensures in
    (rw c.rule_of-rule.ensures (first-small t.tag), rw s (bit-small (leb 2 (used_pairs t.tag t.a))), omega arith, c.requires)

pub returns : goal.returns
unfolding ten_form
returns c =
    let t = c.args.t in
    let r = c.rule_of-rule.ensures in
    let flag = form-flag t.tag t.a t.b t.c (sym c.row_form.ensures ∙ c.if-not-row_form.false) in
    rw (← c.row_form.ensures, c.if-not-row_form.false, ← c.may_follow.ensures, c.if-not-may_follow.false)
    (c.pairs_by.ensures used_pairs (ap (λ (q : Rule). q.first) r ∙ first-told t.tag t.a) (second t.tag t.a flag r c.second_pair.ensures) (third-told t.tag t.a flag))
