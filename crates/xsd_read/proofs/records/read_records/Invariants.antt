-- `xsd_read::records::read_records` meets its contract. The loop's invariant: the sheet holds the rows of a state from which the rest of the marks leads to
-- the whole reading. The measure is how many marks are left. Assumes nothing.
use Prim.Native.Nat.{◌-◌}
use lib.ListN.{length}
use Rattle.xsd_read.proofs.Laws.Loop.{Reads}
use Rattle.xsd_read.proofs.records.read_records.Given as goal

abbrev pub invariant-loop-t : goal.invariant-loop-t
invariant-loop-t l = Reads l.initial.sheet l.v.text.now l.v.marks.now l.initial.progress l.sheet l.progress l.place l.at

abbrev pub decreases-loop-t : goal.decreases-loop-t
decreases-loop-t l = length l.v.marks.now - l.at
