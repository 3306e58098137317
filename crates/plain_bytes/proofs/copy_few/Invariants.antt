-- `plain_bytes::copy_few` meets its contract. The loop's invariant: the first k bytes are copied. Assumes nothing.
use mathlib.Core.Path.{◌≡◌}
use lib.ListN.{length, take}
use Rattle.plain_bytes.proofs.copy_few.Given as goal

abbrev pub invariant-loop-k : goal.invariant-loop-k
invariant-loop-k l = take l.k l.out ≡ take l.k l.bytes
