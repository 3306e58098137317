-- `pattern::class::class_end` meets its contract: a class that does not begin with its closing bracket is read like the rest of a class. The loop's invariant:
-- the scan goes on at i, inside the class. The measure is what is left. Assumes nothing.
use Prim.Native.Nat.{ℕ, ◌-◌, ◌≤◌}
use mathlib.Core.Path.{◌≡◌}
use lib.ListN.{length, drop}
use Rattle.pattern.specs.Scan.{Mode, go, scan}
use Rattle.pattern.proofs.class.class_end.Given as goal

abbrev pub invariant-loop-i : goal.invariant-loop-i
invariant-loop-i l = (l.at ≤ l.i) × (l.i ≤ length l.s) × ((d : ℕ) → scan (go d Mode.opened) (drop l.at l.s) ≡ scan (go d Mode.class) (drop l.i l.s))

abbrev pub decreases-loop-i : goal.decreases-loop-i
decreases-loop-i l = length l.s - l.i
