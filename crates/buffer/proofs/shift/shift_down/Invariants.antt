-- `buffer::shift::shift_down` meets its contract. The loop's invariant: the first k bytes are moved. Assumes nothing.
use lib.ListN.{take, drop}
use Rattle.buffer.proofs.Laws.Shift.{Copying}
use Rattle.buffer.proofs.shift.shift_down.Given as goal

abbrev pub invariant-loop-k : goal.invariant-loop-k
invariant-loop-k l = Copying l.initial.names l.to (take l.count (drop l.from l.initial.names)) l.k l.names
