-- `xml_parts::values::value_end` meets its contract: a run of bytes that need no look leaves the verdict to what stands behind it. Assumes nothing.
use Prim.Native.Nat.{ℕ}
use mathlib.Core.Path.{◌≡◌, sym, ap, ◌∙◌}
use mathlib.Core.Bool.{true}
use native.Mathlib.Omega.{arith}
use native.Mathlib.Numerals.{add-one}
use lib.ListN.{length, drop}
use Rattle.std.proofs.lemmas.Bool.{lt-ltb, le-ltb}
use Rattle.text.specs.Text.{Text}
use Rattle.text.proofs.Laws.Texts.{first-drop}
use Rattle.xml.specs.Steps.{Step, ◌and_then◌, many}
use Rattle.xml.specs.Values.{value_end, is_quote, is_in_value}
use Rattle.xml.proofs.Laws.Values.{value-stop, value-run}
use Rattle.xml_parts.proofs.Laws.Classes.{run-in-value}
use Rattle.xml_parts.proofs.Laws.Skips.{many-over}
use Rattle.xml_parts.proofs.Laws.Held.{quote-inside}
use Rattle.xml_parts.proofs.values.value_end.Goals as goal

on : (quote : ℕ) → is_quote quote ≡ true → (text : Text) (i at : ℕ) → many is_in_value i (drop i text) ≡ many is_in_value at (drop at text)
    → value_end quote i (drop i text) ≡ value_end quote at (drop at text)
on quote q text i at e = value-run quote q i (drop i text) ∙ ap (λ (d : Step). d and_then value_end quote) e ∙ sym (value-run quote q at (drop at text))

pub overflow_add-result : goal.overflow_add-result
overflow_add-result c =
    let text = c.args.text.now in
    let i = c.skip-end.result in
    omega (arith, quote-inside c.args.quote c.requires text i (sym (first-drop text i) ∙ sym c.byte_at.ensures ∙ c.if-byte_at-quote.true))

pub returns-then-byte_at-quote : goal.returns-then-byte_at-quote
returns-then-byte_at-quote c =
    let text = c.args.text.now in
    let i = c.skip-end.result in
    let here = sym (first-drop text i) ∙ sym c.byte_at.ensures ∙ c.if-byte_at-quote.true in
    rw (add-one i)
    (sym (value-stop c.args.quote text i i (quote-inside c.args.quote c.requires text i here) here)
    ∙ on c.args.quote c.requires text i c.args.at (many-over c.skip-end.ensures is_in_value run-in-value))

pub returns-in_err-stop : goal.returns-in_err-stop
returns-in_err-stop c =
    let text = c.args.text.now in
    rw c.from_residual.ensures (c.in_err-stop.ensures.ends ∙ on c.args.quote c.requires text c.skip-end.result c.args.at (many-over c.skip-end.ensures is_in_value run-in-value))

pub returns-then-stop-text : goal.returns-then-stop-text
returns-then-stop-text c =
    let text = c.args.text.now in
    (rw (lt-ltb c.in_ok-stop.stop (length text) c.if-stop-text.true) at c.in_ok-stop.ensures.ends)
    ∙ on c.args.quote c.requires text c.skip-end.result c.args.at (many-over c.skip-end.ensures is_in_value run-in-value)

pub returns-else-stop-text : goal.returns-else-stop-text
returns-else-stop-text c =
    let text = c.args.text.now in
    (rw (le-ltb c.in_ok-stop.stop (length text) c.if-stop-text.false) at c.in_ok-stop.ensures.ends)
    ∙ on c.args.quote c.requires text c.skip-end.result c.args.at (many-over c.skip-end.ensures is_in_value run-in-value)
