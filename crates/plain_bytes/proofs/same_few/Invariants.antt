-- `plain_bytes::same_few` meets its contract. The loop's invariant: the bytes so far are the same. Assumes nothing.
use Rattle.plain_bytes.proofs.Laws.Same.{Alike}
use Rattle.plain_bytes.proofs.same_few.Given as goal

abbrev pub invariant-loop-k : goal.invariant-loop-k
invariant-loop-k l = Alike l.x l.y l.k
