-- `plain_bytes::skip` meets its contract. The loop's invariant: i is no further than the text's end, and every byte from the start up to i is of the run.
-- A word of bytes below 128 with no stop is passed over whole, and one with a stop up to its lowest stop. The measure is how much is left. Assumes
-- nothing.
use Prim.Native.Nat.{◌-◌, ◌≤◌}
use lib.ListN.{length}
use Rattle.plain_bytes.specs.Scan.{Skips}
use Rattle.plain_bytes.proofs.skip.Given as goal

abbrev pub invariant-loop-i : goal.invariant-loop-i
invariant-loop-i g l = (l.i ≤ length l.text) × Skips g.R.Run.is_in l.text l.at l.i

abbrev pub decreases-loop-i : goal.decreases-loop-i
decreases-loop-i g l = length l.text - l.i
