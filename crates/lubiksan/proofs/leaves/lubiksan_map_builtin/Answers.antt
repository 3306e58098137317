-- `lubiksan::leaves::lubiksan_map_builtin` meets its contract: the number is that of the leaf's answer. Assumes nothing.
use mathlib.Core.Path.{ap, ◌∙◌}
use Rattle.builtin.specs.Builtin.{reference}
use Rattle.lubiksan.proofs.leaves.lubiksan_map_builtin.Goals as goal

pub returns : goal.returns
returns c = c.reference_number.ensures ∙ ap reference c.map_builtin.ensures
