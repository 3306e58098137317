-- `graph_form::row::row_form` meets its contract: what the table tells of the numbers is what the definition asks. Assumes nothing.
use Rattle.std.specs.Prelude.{if◌then◌else◌}
use Prim.Native.Nat.{ℕ}
use mathlib.Core.Path.{◌≡◌, ap, ◌∙◌}
use mathlib.Core.Bool.{Bool, ◌&&◌, ◌||◌}
use lib.Dec.{eqb, leb}
use borrow.Author.Rules.{rules}
use Rattle.rows.specs.Ten.{as_ten}
use Rattle.ir_types.specs.Form.{form_c}
use Rattle.graph_form.specs.declared.rules.Rule.{Rule}
use Rattle.graph_form.specs.Rules.{rule_of}
use Rattle.graph_form.proofs.Laws.Rules.{told_a, form-told, form-fails, known-tag, c-told, c-small}
use Rattle.graph_form.proofs.row.row_form.Goals as goal

-- c by the rule
c_is : (tag a b c : ℕ) {r : Rule} {x : Bool} → r ≡ rule_of tag a → x ≡ (if eqb tag 9 && eqb b 3 then leb 2 c else (eqb r.no_c 0 || eqb c 0)) → x ≡ form_c tag b c
c_is tag a b c r e = e ∙ ap (λ (q : Rule). if eqb tag 9 && eqb b 3 then leb 2 c else (eqb q.no_c 0 || eqb c 0)) r ∙ c-told tag a b c

pub returns-then-in_range-inner_missing : goal.returns-then-in_range-inner_missing
returns-then-in_range-inner_missing c = form-fails (as_ten c.args.t) (search rules) (rw c.in_range.ensures at c.if-in_range-inner_missing.true)

pub rule_of-rule-requires : goal.rule_of-rule-requires
rule_of-rule-requires c = known-tag c.args.t.tag c.args.t.a (rw c.in_range.ensures at c.if-in_range-inner_missing.false)

pub c_form-requires : goal.c_form-requires
c_form-requires c = rw c.rule_of-rule.ensures (c-small c.args.t.tag (told_a c.args.t.a))

pub returns : goal.returns
returns c =
    let t = c.args.t in
    let r = c.rule_of-rule.ensures in
    rw r
    (form-told (as_ten t) (search rules) (rw c.in_range.ensures at c.if-in_range-inner_missing.false) (search rules) (c_is t.tag (told_a t.a) t.b t.c r c.c_form.ensures))
