-- `xml_parts::values::line_end` meets its contract: the bytes of a line end are of the class. Assumes nothing.
use mathlib.Core.Path.{sym, ◌∙◌}
use native.Mathlib.Omega.{arith}
use Rattle.text.proofs.Laws.Texts.{first-drop}
use Rattle.xml_parts.proofs.Laws.Classes.{line-in-text, return-in-text}
use Rattle.xml_parts.proofs.Laws.Held.{byte-inside, text-past}
use Rattle.xml_parts.proofs.values.line_end.Goals as goal

pub overflow_add-at : goal.overflow_add-at
overflow_add-at c =
    let a = c.args in
    omega (arith, byte-inside 13 (omega arith) a.text.now a.at (sym (first-drop a.text.now a.at) ∙ sym c.byte_at.ensures ∙ c.in-13.is))

pub overflow_add-result : goal.overflow_add-result
overflow_add-result c =
    let a = c.args in
    omega (arith, byte-inside 10 (omega arith) a.text.now a.at (sym (first-drop a.text.now a.at) ∙ sym c.byte_at.ensures ∙ c.in-10.is))

pub returns-in-13 : goal.returns-in-13
returns-in-13 c =
    let a = c.args in
    c.line_feed.ensures ∙ text-past 13 (omega arith) return-in-text a.text.now a.at (sym (first-drop a.text.now a.at) ∙ sym c.byte_at.ensures ∙ c.in-13.is)

pub returns-in-10 : goal.returns-in-10
returns-in-10 c =
    let a = c.args in
    text-past 10 (omega arith) line-in-text a.text.now a.at (sym (first-drop a.text.now a.at) ∙ sym c.byte_at.ensures ∙ c.in-10.is)
