-- `pattern::aside::is_aside_pair` meets its contract: the tests are the definition's. Assumes nothing.
use mathlib.Core.Path.{refl}
use Rattle.pattern.specs.Call.{is_aside_pair}
use Rattle.pattern.proofs.aside.is_aside_pair.Goals as goal

pub returns : goal.returns
unfolding is_aside_pair
returns c = refl
