-- `xml_parts::values::text_run` meets its contract: what is passed over first is of the class. Assumes nothing.
use mathlib.Core.Path.{◌∙◌}
use Rattle.xml_parts.proofs.values.text_run.Goals as goal

pub returns : goal.returns
returns c = c.many.ensures ∙ c.skip_lines.ensures
