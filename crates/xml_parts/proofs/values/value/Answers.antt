-- `xml_parts::values::value` meets its contract: the first byte is a quote, and the value goes on behind it. Assumes nothing.
use mathlib.Core.Path.{sym, ap, ◌∙◌}
use native.Mathlib.Nat.{le_refl}
use native.Mathlib.Numerals.{add-one}
use Rattle.xml.specs.Values.{is_quote}
use Rattle.xml.proofs.Laws.Values.{value-past, value-unquoted, value-quoted}
use Rattle.xml_parts.proofs.values.value.Goals as goal

pub returns-in_err-b : goal.returns-in_err-b
returns-in_err-b c =
    let a = c.args in
    rw c.from_residual.ensures (sym (value-past a.text.now a.at a.at c.in_err-b.ensures.lookup.3))

pub returns-then-not-is_quote : goal.returns-then-not-is_quote
returns-then-not-is_quote c =
    let a = c.args in
    let l = c.in_ok-b.ensures.lookup in
    sym (value-unquoted a.text.now a.at a.at l.3.0 (ap is_quote (sym (l.4 (le_refl a.at) 0)) ∙ sym c.is_quote.ensures ∙ c.if-not-is_quote.true))

pub returns : goal.returns
returns c =
    let a = c.args in
    let l = c.in_ok-b.ensures.lookup in
    (rw (add-one a.at, l.4 (le_refl a.at) 0) at c.value_end.ensures)
    ∙ sym (value-quoted a.text.now a.at a.at l.3.0 (ap is_quote (sym (l.4 (le_refl a.at) 0)) ∙ sym c.is_quote.ensures ∙ c.if-not-is_quote.false))
