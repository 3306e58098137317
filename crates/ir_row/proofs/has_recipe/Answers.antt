-- `ir_row::has_recipe` meets its contract: the code is the definition, test by test. Assumes nothing.
use Rattle.ir_row.specs.Recipes.{has_recipe}
use Rattle.ir_row.proofs.has_recipe.Goals as goal

pub returns : goal.returns
unfolding has_recipe
returns c = rw (c.in_range.ensures, c.in_range-2.ensures, c.in_range-3.ensures)
