-- `name_index::mix` meets its contract: sum and product fit, and are the definition's. Assumes nothing.
use mathlib.Core.Path.{refl}
use Rattle.name_index.specs.Hash.{mixed}
use Rattle.name_index.proofs.mix.Goals as goal

pub returns : goal.returns
unfolding mixed
returns c = refl
