-- `xml_parts::values::value_run` meets its contract: what is passed over first is of the class. Assumes nothing.
use mathlib.Core.Path.{◌∙◌}
use Rattle.xml.specs.Values.{is_in_value}
use Rattle.xml_parts.proofs.Laws.Classes.{run-in-value}
use Rattle.xml_parts.proofs.Laws.Skips.{many-over}
use Rattle.xml_parts.proofs.values.value_run.Goals as goal

pub returns : goal.returns
returns c = c.many.ensures ∙ many-over c.skip.ensures is_in_value run-in-value
