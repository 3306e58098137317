-- `xml_parts::values::skip_lines` meets its contract: what is passed over is of the class. The loop's invariant: the run from i on ends where the run from the
-- start on ends. The measure is how much is left. Assumes nothing.
use Prim.Native.Nat.{◌-◌}
use mathlib.Core.Path.{◌≡◌}
use lib.ListN.{length, drop}
use Rattle.xml.specs.Steps.{many}
use Rattle.xml.specs.Values.{is_in_text}
use Rattle.xml_parts.proofs.values.skip_lines.Given as goal

abbrev pub invariant-loop-i : goal.invariant-loop-i
invariant-loop-i l = many is_in_text l.i (drop l.i l.text) ≡ many is_in_text l.at (drop l.at l.text)

abbrev pub decreases-loop-i : goal.decreases-loop-i
decreases-loop-i l = length l.text - l.i
