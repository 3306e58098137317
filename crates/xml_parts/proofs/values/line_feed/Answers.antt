-- `xml_parts::values::line_feed` meets its contract: the byte is of the class, so the run goes on behind it. Assumes nothing.
use mathlib.Core.Path.{sym, ◌∙◌}
use native.Mathlib.Omega.{arith}
use Rattle.text.proofs.Laws.Texts.{first-drop}
use Rattle.xml_parts.proofs.Laws.Classes.{line-in-text}
use Rattle.xml_parts.proofs.Laws.Held.{byte-inside, text-past}
use Rattle.xml_parts.proofs.values.line_feed.Goals as goal

pub overflow_add-result : goal.overflow_add-result
overflow_add-result c =
    let a = c.args in
    omega (arith, byte-inside 10 (omega arith) a.text.now a.at (sym (first-drop a.text.now a.at) ∙ sym c.byte_at.ensures ∙ c.if-byte_at-eq10.true))

pub returns-then-byte_at-eq10 : goal.returns-then-byte_at-eq10
returns-then-byte_at-eq10 c =
    let a = c.args in
    text-past 10 (omega arith) line-in-text a.text.now a.at (sym (first-drop a.text.now a.at) ∙ sym c.byte_at.ensures ∙ c.if-byte_at-eq10.true)
