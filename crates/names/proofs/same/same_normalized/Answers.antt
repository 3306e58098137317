-- `names::same::same_normalized` meets its contract: both names are spelled as they normalise. Assumes nothing.
use Rattle.names.specs.Same.{spelled}
use Rattle.names.proofs.same.same_normalized.Goals as goal

pub returns : goal.returns
unfolding spelled
returns c = c.is_same.ensures
