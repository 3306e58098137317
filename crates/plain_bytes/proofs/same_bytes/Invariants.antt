-- `plain_bytes::same_bytes` meets its contract. The loop's invariant: i is no further than the parts' end, and the bytes before it are the same. The measure is how much is
-- left. Assumes nothing.
use Prim.Native.Nat.{◌-◌, ◌≤◌}
use lib.ListN.{length}
use Rattle.plain_bytes.proofs.Laws.Same.{Alike}
use Rattle.plain_bytes.proofs.same_bytes.Given as goal

abbrev pub invariant-loop-i : goal.invariant-loop-i
invariant-loop-i l = (l.i ≤ length l.x) × Alike l.x l.y l.i

abbrev pub decreases-loop-i : goal.decreases-loop-i
decreases-loop-i l = length l.x - l.i
