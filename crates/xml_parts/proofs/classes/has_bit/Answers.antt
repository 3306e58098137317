-- `xml_parts::classes::has_bit` meets its contract: the test is the definition's. Assumes nothing.
use mathlib.Core.Path.{refl}
use Rattle.xml_parts.specs.Answers.{has_bit}
use Rattle.xml_parts.proofs.classes.has_bit.Goals as goal

pub returns : goal.returns
unfolding has_bit
returns c = refl
