-- `names::bytes::put_bytes` meets its contract. The loop's invariant: `end` bytes of the target are written, and what is left of the iterator is what is still to be
-- written.
use Rattle.names.proofs.Laws.Writing.{Writing}
use Rattle.names.proofs.bytes.put_bytes.Given as goal

abbrev pub invariant-loop-b : goal.invariant-loop-b
invariant-loop-b g l =
    (goal.iterator-loop-b g).can_next l.b-iterator × (goal.iterator-loop-b g).is_finite l.b-iterator
    × Writing (g.B.TextBytes.left l.fn.bytes) l.initial.out l.end l.out (g.B.TextBytes.left l.b-iterator)
