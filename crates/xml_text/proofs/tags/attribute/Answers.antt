-- `xml_text::tags::attribute` meets its contract: a key, the quote behind it, and the value up to the next one. Assumes nothing.
use mathlib.Core.Path.{sym, ap, ◌∙◌}
use native.Mathlib.Omega.{arith}
use Prim.Native.Nat.{ℕ, ◌+◌}
use lib.ListN.{drop}
use Rattle.xml.specs.Tags.{attribute}
use Rattle.xml.specs.Values.{value_end, is_quote}
use Rattle.xml.proofs.Laws.Moves.{inside-text, name-passes, eq-passes, value_passes, value-two}
use Rattle.xml_text.proofs.Laws.Plain.{no-value, value-opened, quote-within}
use Rattle.xml_text.proofs.tags.attribute.Goals as goal

pub returns-in_err-key_end : goal.returns-in_err-key_end
unfolding attribute
returns-in_err-key_end c = rw c.from_residual.ensures (rw (sym c.in_err-key_end.ensures), tt)

pub returns-in_err-before : goal.returns-in_err-before
unfolding attribute
returns-in_err-before c =
    rw c.from_residual-in_err-before.ensures (rw (sym c.in_ok-key_end.ensures, no-value _ _ _ _ c.in_err-before.ensures), tt)

pub overflow_add-before : goal.overflow_add-before
overflow_add-before c =
    let o = c.in_ok-before.ensures in
    omega (arith, quote-within c.args.text.now c.in_ok-before.before.at (ap is_quote (sym o.1) ∙ o.2))

pub value_end-requires : goal.value_end-requires
value_end-requires c = c.in_ok-before.ensures.2

pub returns-in_err-behind : goal.returns-in_err-behind
unfolding attribute
returns-in_err-behind c =
    let text = c.args.text.now in
    let q = c.in_ok-before.before.at in
    let o = c.in_ok-before.ensures in
    let v = value-opened text q (ap is_quote (sym o.1) ∙ o.2) ∙ ap (λ (b : ℕ). value_end b (q + 1) (drop (q + 1) text)) (sym o.1) ∙ sym c.in_err-behind.ensures in
    rw c.from_residual-in_err-behind.ensures (rw (sym c.in_ok-key_end.ensures, o.0, v), tt)

pub returns : goal.returns
unfolding attribute
returns c =
    let text = c.args.text.now in
    let q = c.in_ok-before.before.at in
    let o = c.in_ok-before.ensures in
    let r = value-opened text q (ap is_quote (sym o.1) ∙ o.2) ∙ ap (λ (b : ℕ). value_end b (q + 1) (drop (q + 1) text)) (sym o.1) ∙ sym c.in_ok-behind.ensures in
    let n = inside-text name-passes text c.args.at _ (sym c.in_ok-key_end.ensures) in
    let e = inside-text eq-passes text _ _ o.0 in
    let v = inside-text value_passes text _ _ r in
    let w = value-two _ _ _ _ r in (
      rw (sym c.in_ok-key_end.ensures, o.0, r),
      (omega arith, omega arith, omega arith, omega arith, omega arith),
    )
