-- `xsd_replace::head::replace_head` meets its contract: the bytes of the second text, if there is one. Assumes nothing.
use mathlib.Core.List.{append-nil}
use Rattle.text.specs.Text.{join}
use Rattle.xsd_replace.proofs.head.replace_head.Goals as goal

pub set_head-requires-clause-head : goal.set_head-requires-clause-head
unfolding join
set_head-requires-clause-head c = rw append-nil at (rw c.in-Some.is at c.requires)

pub set_head-requires-in-None-clause-head : goal.set_head-requires-in-None-clause-head
unfolding join
set_head-requires-in-None-clause-head c = rw c.in-None.is at c.requires
