-- `ir_row::refers_to` meets its contract: the code is the definition, test by test. Assumes nothing.
use Rattle.ir_row.specs.Recipes.{refers}
use Rattle.ir_row.proofs.refers_to.Goals as goal

pub returns : goal.returns
unfolding refers
returns c = rw c.in_range.ensures
