-- `text::blocks_start` meets its contract. The loop's invariant: no colon stands behind. The measure is where what is left ends. Assumes nothing.
use Prim.Native.Nat.{ℕ, ◌<◌, ◌≤◌}
use mathlib.Core.Logic.{◌≢◌}
use lib.ListN.{length, get_or}
use Rattle.text.specs.Text.{colon}
use Rattle.text.proofs.blocks_start.Given as goal

abbrev pub invariant-loop-end : goal.invariant-loop-end
invariant-loop-end l = record {
  inside : l.end ≤ length l.name;
  behind : (k : ℕ) → l.end ≤ k → k < length l.name → get_or l.name k 0 ≢ colon;
}

abbrev pub decreases-loop-end : goal.decreases-loop-end
decreases-loop-end l = l.end
