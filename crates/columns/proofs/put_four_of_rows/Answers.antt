-- `columns::put_four_of_rows` meets its contract: above the first row is 0, and after the last square four columns more are written. Assumes nothing.
use Rattle.std.proofs.Common.{refl}
use Rattle.columns.specs.Filled.{before, sums_above}
use Rattle.columns.proofs.Laws.Squares.{strip_none}
use Rattle.columns.proofs.put_four_of_rows.Goals as goal

pub loop-q-init : goal.loop-q-init
unfolding sums_above before
loop-q-init c = (refl, refl, strip_none _ _ _ _ _ c.requires.2)
