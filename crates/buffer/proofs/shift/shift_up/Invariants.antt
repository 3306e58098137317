-- `buffer::shift::shift_up` meets its contract. The loop's invariant: the last k bytes are moved. Assumes nothing.
use Prim.Native.Nat.{◌-◌}
use lib.ListN.{take, drop}
use Rattle.buffer.proofs.Laws.Shift.{Moving}
use Rattle.buffer.proofs.shift.shift_up.Given as goal

abbrev pub invariant-loop-k : goal.invariant-loop-k
invariant-loop-k l = Moving l.initial.names l.to (take l.count (drop l.from l.initial.names)) (l.count - l.k) l.names
