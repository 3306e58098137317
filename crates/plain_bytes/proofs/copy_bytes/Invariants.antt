-- `plain_bytes::copy_bytes` meets its contract. The loop's invariant: the first k words are copied. Assumes nothing.
use Prim.Native.Nat.{◌*◌}
use mathlib.Core.Path.{◌≡◌}
use lib.ListN.{length, take}
use Rattle.plain_bytes.proofs.copy_bytes.Given as goal

abbrev pub invariant-loop-k : goal.invariant-loop-k
invariant-loop-k l = take (8 * l.k) l.out ≡ take (8 * l.k) l.bytes
