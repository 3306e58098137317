-- `columns::lanes::sum` meets its contract: a lane is the definition's. Assumes nothing.
use Rattle.std.proofs.Common.{refl}
use Rattle.columns.specs.Columns.{plus}
use Rattle.columns.proofs.lanes.sum.Goals as goal

pub returns : goal.returns
unfolding plus
returns c = refl
