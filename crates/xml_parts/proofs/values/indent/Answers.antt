-- `xml_parts::values::indent` meets its contract: a line end, spaces and tabs are of the class. Assumes nothing.
use mathlib.Core.Path.{◌∙◌}
use Rattle.xml.specs.Values.{is_in_text}
use Rattle.xml_parts.proofs.Laws.Classes.{one-run, space-in-text, tab-in-text}
use Rattle.xml_parts.proofs.Laws.Skips.{many-over}
use Rattle.xml_parts.proofs.values.indent.Goals as goal

pub returns-in-32 : goal.returns-in-32
returns-in-32 c = many-over c.skip.ensures is_in_text (one-run 32 space-in-text) ∙ c.line_end-line.ensures

pub returns-in-9 : goal.returns-in-9
returns-in-9 c = many-over c.skip-in-9.ensures is_in_text (one-run 9 tab-in-text) ∙ c.line_end-line.ensures
