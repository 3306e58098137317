-- `xml_parts::steps::literal` meets its contract: the word fits into what is left where it stands there. Assumes nothing.
use native.Mathlib.Omega.{arith}
use mathlib.Core.Path.{sym, ◌∙◌}
use lib.ListN.{length-drop}
use Rattle.xml.proofs.Laws.Steps.{starts-length, literal-yes, literal-no}
use Rattle.xml_parts.proofs.steps.literal.Goals as goal

pub overflow_add-result : goal.overflow_add-result
overflow_add-result c =
    let a = c.args in
    omega (arith, starts-length a.word.now _ (sym c.starts.ensures ∙ c.if-starts.true), length-drop a.at a.text.now)

pub returns-then-starts : goal.returns-then-starts
returns-then-starts c =
    let a = c.args in
    sym (literal-yes a.word.now a.text.now a.at (sym c.starts.ensures ∙ c.if-starts.true))

pub returns-else-starts : goal.returns-else-starts
returns-else-starts c =
    let a = c.args in
    sym (literal-no a.word.now a.at _ (sym c.starts.ensures ∙ c.if-starts.false))
