-- `ir_row::reference_text` meets its contract: the test is that of the definition. Assumes nothing.
use mathlib.Core.Path.{◌∙◌}
use lib.Dec.{eqb}
use Rattle.ir_row.specs.Recipes.{reference_spelling}
use Rattle.ir_row.proofs.Laws.Recipes.{then-if}
use Rattle.ir_row.proofs.reference_text.Goals as goal

pub returns : goal.returns
unfolding reference_spelling
returns c = c.then_some.ensures ∙ then-if (eqb c.args.reference 0) _
