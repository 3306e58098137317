-- `xml_text::tags::last_part` meets its contract: a word that stands in a text ends inside it. Assumes nothing.
use mathlib.Core.Path.{sym, ◌∙◌}
use native.Mathlib.Omega.{arith}
use lib.ListN.{length-drop}
use Rattle.xml.proofs.Laws.Steps.{starts-length}
use Rattle.xml_text.proofs.tags.last_part.Goals as goal

pub overflow_add-result : goal.overflow_add-result
overflow_add-result c = omega (arith, starts-length _ _ (sym c.starts.ensures ∙ c.if-starts.true), length-drop c.args.at c.args.text.now)

pub overflow_add-result-then-starts-2 : goal.overflow_add-result-then-starts-2
overflow_add-result-then-starts-2 c = omega (arith, starts-length _ _ (sym c.starts-2.ensures ∙ c.if-starts-2.true), length-drop c.args.at c.args.text.now)
