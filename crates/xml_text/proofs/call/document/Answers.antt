-- `xml_text::call::document` meets its contract: the prolog decides. Assumes nothing.
use mathlib.Core.Path.{sym, ◌∙◌}
use Rattle.text.specs.Text.{bytes}
use Rattle.xml.specs.Document.{document}
use Rattle.xml_text.proofs.call.document.Goals as goal

pub returns-in_default : goal.returns-in_default
unfolding document
returns-in_default c = rw (sym c.in_default.ensures)

pub returns-then-starts : goal.returns-then-starts
unfolding document bytes
returns-then-starts c =
    rw (sym c.in-Some.ensures, sym c.starts.ensures ∙ c.if-starts.true)

pub returns : goal.returns
unfolding document bytes
returns c = rw (c.ok_or.ensures.value, sym c.in-Some.ensures, sym c.starts.ensures ∙ c.if-starts.false) c.document_from.ensures
