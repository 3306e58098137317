-- `xml_parts::steps::many` meets its contract. The loop's invariant: the run goes on where it does from the start. Assumes nothing.
use native.Mathlib.Omega.{arith}
use mathlib.Core.Path.{refl, sym, ◌∙◌}
use native.Mathlib.Numerals.{add-one}
use Rattle.xml_parts.specs.Answers.{class_of}
use Rattle.xml.proofs.Laws.Steps.{many-stop, many-on, many-end}
use Rattle.xml_parts.proofs.steps.many.Goals as goal

pub returns-then-not-in_class : goal.returns-then-not-in_class
returns-then-not-in_class c =
    let a = c.args in
    rw c.loop-i.invariant.0 (sym (many-stop (class_of a.class) a.text.now c.loop-i.i c.loop-i.i (omega arith) (sym c.in_class.ensures ∙ c.if-not-in_class.true)) ∙ c.loop-i.invariant.1)

pub loop-i-preserved : goal.loop-i-preserved
loop-i-preserved c =
    let a = c.args in
    (refl, rw (add-one c.loop-i.i) (sym (many-on (class_of a.class) a.text.now c.loop-i.i c.loop-i.i (omega arith) (sym c.in_class.ensures ∙ c.if-not-in_class.false)) ∙ c.loop-i.invariant.1))

pub returns-after-loop-i : goal.returns-after-loop-i
returns-after-loop-i c =
    let a = c.args in
    rw c.loop-i.invariant.0 (sym (many-end (class_of a.class) a.text.now c.loop-i.i c.loop-i.i c.loop-i-test.false) ∙ c.loop-i.invariant.1)
