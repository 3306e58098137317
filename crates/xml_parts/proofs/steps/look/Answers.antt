-- `xml_parts::steps::look` meets its contract. The loop's invariant: the search from i on ends where the search from the start on ends. Assumes nothing.
use native.Mathlib.Omega.{arith}
use mathlib.Core.Path.{◌≡◌, sym, ◌∙◌}
use native.Mathlib.Numerals.{add-one}
use Rattle.xml.proofs.Laws.Steps.{literal-yes, until-hit, until-wrong, until-on}
use Rattle.xml_parts.proofs.steps.look.Goals as goal

pub returns-then-starts : goal.returns-then-starts
returns-then-starts c =
    let a = c.args in
    sym (literal-yes a.word.now a.text.now c.loop-i.i (sym c.starts.ensures ∙ c.if-starts.true))
    ∙ sym (until-hit a.word.now a.text.now c.loop-i.i c.loop-i.i (omega arith) (sym c.starts.ensures ∙ c.if-starts.true)) ∙ c.loop-i.invariant

pub returns-then-not-is_char : goal.returns-then-not-is_char
returns-then-not-is_char c =
    let a = c.args in
    sym (until-wrong a.word.now a.text.now c.loop-i.i c.loop-i.i (omega arith) (sym c.starts.ensures ∙ c.if-starts.false)
    (sym c.is_char.ensures ∙ c.if-not-is_char.true)) ∙ c.loop-i.invariant

pub loop-i-preserved : goal.loop-i-preserved
loop-i-preserved c =
    let a = c.args in
    rw (add-one c.loop-i.i) (sym (until-on a.word.now a.text.now c.loop-i.i c.loop-i.i (omega arith) (sym c.starts.ensures ∙ c.if-starts.false)
    (sym c.is_char.ensures ∙ c.if-not-is_char.false)) ∙ c.loop-i.invariant)

pub returns : goal.returns
returns c =
    let e : c.loop-i.i ≡ c.args.to = omega arith in
    rw e at c.loop-i.invariant
