-- `ir_label::has_reference` meets its contract: the code is the definition, test by test. Assumes nothing.
use Rattle.std.proofs.Common.{arith}
use Rattle.std.proofs.lemmas.Grind.{common_steps}
use Rattle.ir_types.specs.Label.{has_reference}
use Rattle.ir_label.proofs.has_reference.Goals.{in_default, in_default-2, in-5, in-5-2}
use Rattle.ir_label.proofs.has_reference.Goals as goal

pub returns : goal.returns
unfolding has_reference
returns c = elim c.match-matches.branch [
  | in_default w ↦ grind (arith, common_steps)
  | in_default-2 w ↦ grind (arith, common_steps)
  | in-5 w ↦ grind (arith, common_steps)
  | in-5-2 w ↦ grind (arith, common_steps)
]
