-- `xsd_read::carry::open_head_after` meets its contract: the two arms of the test. Assumes nothing.
use borrow.Author.Tests.{lt-ltb, le-ltb}
use Rattle.xsd_read.specs.Due.{open_head_after}
use Rattle.xsd_read.proofs.carry.open_head_after.Goals as goal

pub returns-then-p-lt-SIMPLE_TYPE : goal.returns-then-p-lt-SIMPLE_TYPE
unfolding open_head_after
returns-then-p-lt-SIMPLE_TYPE c = rw (lt-ltb c.args.p.mode.context 2 c.if-p-lt-SIMPLE_TYPE.true)

pub returns-else-p-lt-SIMPLE_TYPE : goal.returns-else-p-lt-SIMPLE_TYPE
unfolding open_head_after
returns-else-p-lt-SIMPLE_TYPE c = rw (le-ltb c.args.p.mode.context 2 c.if-p-lt-SIMPLE_TYPE.false)
