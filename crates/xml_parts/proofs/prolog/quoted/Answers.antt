-- `xml_parts::prolog::quoted` meets its contract: a quote, what stands between, and the same quote. Assumes nothing.
use mathlib.Core.Path.{sym, ap, ◌∙◌}
use native.Mathlib.Nat.{le_refl}
use native.Mathlib.Numerals.{add-one}
use Rattle.xml.specs.Values.{is_quote}
use Rattle.xml_parts.specs.Answers.{body_of}
use Rattle.xml.proofs.Laws.Prolog.{quoted-past, quoted-wrong, quoted-on}
use Rattle.xml_parts.proofs.prolog.quoted.Goals as goal

pub returns-in_err-quote : goal.returns-in_err-quote
returns-in_err-quote c =
    let a = c.args in
    rw c.from_residual.ensures (sym (quoted-past (body_of a.inner) a.text.now a.at a.at c.in_err-quote.ensures.lookup.3))

pub returns-then-not-is_quote : goal.returns-then-not-is_quote
returns-then-not-is_quote c =
    let a = c.args in
    let l = c.in_ok-quote.ensures.lookup in
    sym (quoted-wrong (body_of a.inner) a.text.now a.at a.at l.3.0 (ap is_quote (sym (l.4 (le_refl a.at) 0)) ∙ sym c.is_quote.ensures ∙ c.if-not-is_quote.true))

pub returns-in_err-end : goal.returns-in_err-end
returns-in_err-end c =
    let a = c.args in
    let l = c.in_ok-quote.ensures.lookup in
    let b = rw (add-one a.at) at c.in_err-end.ensures in
    rw (
      c.from_residual-in_err-end.ensures,
      quoted-on (body_of a.inner) a.text.now a.at a.at l.3.0
          (ap is_quote (sym (l.4 (le_refl a.at) 0)) ∙ sym c.is_quote.ensures ∙ c.if-not-is_quote.false),
      sym b,
    )

pub returns : goal.returns
returns c =
    let a = c.args in
    let l = c.in_ok-quote.ensures.lookup in
    let b = rw (add-one a.at) at c.in_ok-end.ensures in
    rw (
      quoted-on (body_of a.inner) a.text.now a.at a.at l.3.0 (ap is_quote (sym (l.4 (le_refl a.at) 0)) ∙ sym c.is_quote.ensures ∙ c.if-not-is_quote.false),
      sym b,
      sym (l.4 (le_refl a.at) 0),
    ) c.literal.ensures
