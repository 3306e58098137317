-- `pattern::aside::is_aside` meets its contract: the definition's two tests. Assumes nothing.
use Rattle.std.proofs.Common.{ap₂, Bool, ◌||◌}
use Rattle.pattern.specs.Call.{is_aside}
use Rattle.pattern.proofs.aside.is_aside.Goals as goal

pub returns : goal.returns
unfolding is_aside
returns c = ap₂ (λ (x y : Bool). x || y) c.has_pair.ensures c.has_many_opens.ensures
