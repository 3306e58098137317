-- `columns::above_in` meets its contract: the definition's test. Assumes nothing.
use Rattle.std.proofs.Common.{le-ltb, lt-ltb}
use Rattle.columns.specs.Filled.{above_in}
use Rattle.columns.proofs.above_in.Goals as goal

pub returns-then-k-lt-ROW : goal.returns-then-k-lt-ROW
unfolding above_in
returns-then-k-lt-ROW c = rw (lt-ltb _ _ c.if-k-lt-ROW.true)

pub returns : goal.returns
unfolding above_in
returns c = rw (le-ltb _ _ c.if-k-lt-ROW.false)
