-- `xml_parts::steps::until_over` meets its contract: bytes that need no look, then one that does. The loop's invariant: at least one byte is looked at,
-- and the search goes on where it does from the start. The measure is how much is left. Assumes nothing.
use Prim.Native.Nat.{◌-◌, ◌≤◌}
use mathlib.Core.Path.{◌≡◌}
use lib.ListN.{length, drop}
use Rattle.xml.specs.Steps.{until}
use Rattle.xml_parts.proofs.steps.until_over.Given as goal

abbrev pub invariant-loop-i : goal.invariant-loop-i
invariant-loop-i g l = (1 ≤ l.stretch) × (until l.word l.i (drop l.i l.text) ≡ until l.word l.at (drop l.at l.text))

abbrev pub decreases-loop-i : goal.decreases-loop-i
decreases-loop-i g l = length l.text - l.i
