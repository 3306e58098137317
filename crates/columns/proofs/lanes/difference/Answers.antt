-- `columns::lanes::difference` meets its contract: a lane is the definition's. Assumes nothing.
use Rattle.std.proofs.Common.{refl}
use Rattle.columns.specs.Columns.{minus}
use Rattle.columns.proofs.lanes.difference.Goals as goal

pub returns : goal.returns
unfolding minus
returns c = refl
