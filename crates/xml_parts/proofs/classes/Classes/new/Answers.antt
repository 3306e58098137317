-- `xml_parts::classes::Classes::new` meets its contract: the table is the one of the definition. Assumes nothing.
use mathlib.Core.Path.{refl}
use Rattle.xml_parts.specs.Answers.{class_table}
use Rattle.xml_parts.proofs.classes.Classes.new.Goals as goal

pub invariant_of-result : goal.invariant_of-result
unfolding class_table
invariant_of-result c = record { table = refl }
