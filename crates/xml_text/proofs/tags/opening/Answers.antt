-- `xml_text::tags::opening` meets its contract: where `=` and a quote stand right behind the key, no white space is passed over. Assumes nothing.
use mathlib.Core.Path.{sym, ap, ◌∙◌}
use native.Mathlib.Omega.{arith}
use lib.ListN.{drop, length-drop}
use Rattle.xml.specs.Steps.{Step, ◌and_then◌}
use Rattle.xml.specs.Values.{value, is_quote}
use Rattle.xml.proofs.Laws.Steps.{starts-length}
use Rattle.xml_text.proofs.Laws.Plain.{eq-plain, value-none}
use Rattle.xml_text.proofs.tags.opening.Goals as goal

pub overflow_add-at : goal.overflow_add-at
overflow_add-at c = omega (arith, starts-length _ _ (sym c.starts.ensures ∙ c.if-starts.true), length-drop c.args.at c.args.text.now)

pub overflow_add-result : goal.overflow_add-result
overflow_add-result c = omega (arith, starts-length _ _ (sym c.starts.ensures ∙ c.if-starts.true), length-drop c.args.at c.args.text.now)

pub returns-then-is_quote : goal.returns-then-is_quote
returns-then-is_quote c =
    let q = sym c.is_quote.ensures ∙ c.if-is_quote.true in
    (eq-plain c.args.text.now c.args.at (ap is_quote (sym c.byte_at-byte.ensures) ∙ q) (sym c.starts.ensures ∙ c.if-starts.true), c.byte_at-byte.ensures, q)

pub returns-then-not-is_quote : goal.returns-then-not-is_quote
returns-then-not-is_quote c =
    let q = c.in_ok-quote.quote in
    ap (λ (d : Step). d and_then value) (sym c.in_ok-quote.ensures)
    ∙ value-none q (drop q c.args.text.now) (ap is_quote (sym c.byte_at-byte-2.ensures) ∙ sym c.is_quote-2.ensures ∙ c.if-not-is_quote.true)
