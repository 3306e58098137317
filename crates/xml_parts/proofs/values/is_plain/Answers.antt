-- `xml_parts::values::is_plain` meets its contract: an ampersand begins a reference, any other byte is a character. Assumes nothing.
use native.Mathlib.Omega.{arith}
use mathlib.Core.Path.{sym, ◌∙◌}
use Rattle.xml.proofs.Laws.Values.{plain-reference, plain-char}
use Rattle.xml_parts.proofs.values.is_plain.Goals as goal

pub returns-then-b-eq38 : goal.returns-then-b-eq38
returns-then-b-eq38 c =
    let a = c.args in
    c.is_reference.ensures ∙ sym (plain-reference a.text.now a.at (omega arith) c.if-b-eq38.true)

pub returns : goal.returns
returns c =
    let a = c.args in
    c.is_char.ensures ∙ sym (plain-char a.text.now a.at (omega arith) c.if-b-eq38.false)
