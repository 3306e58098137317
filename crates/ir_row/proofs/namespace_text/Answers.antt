-- `ir_row::namespace_text` meets its contract: the test is that of the definition. Assumes nothing.
use mathlib.Core.Path.{◌∙◌}
use lib.Dec.{eqb}
use Rattle.ir_row.specs.Recipes.{namespace_spelling}
use Rattle.ir_row.proofs.Laws.Recipes.{then-if}
use Rattle.ir_row.proofs.namespace_text.Goals as goal

pub returns : goal.returns
unfolding namespace_spelling
returns c = c.then_some.ensures ∙ then-if (eqb c.args.a 1) _
