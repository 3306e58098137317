-- `xml_parts::values::value_stop` meets its contract: a run of bytes that need no look, then the byte that does. The loop's invariant: the value from i on ends where the
-- value from the start on ends, and may be written where that may. The measure is how much is left. Assumes nothing.
use Prim.Native.Nat.{◌-◌}
use mathlib.Core.Path.{◌≡◌}
use lib.ListN.{length, drop}
use Rattle.xml.specs.Values.{value_end}
use Rattle.xml.specs.Written.{is_value}
use Rattle.xml_parts.proofs.values.value_stop.Given as goal

abbrev pub invariant-loop-i : goal.invariant-loop-i
invariant-loop-i l =
    (value_end l.quote l.i (drop l.i l.text) ≡ value_end l.quote l.at (drop l.at l.text)) × (is_value l.quote (drop l.i l.text) ≡ is_value l.quote (drop l.at l.text))

abbrev pub decreases-loop-i : goal.decreases-loop-i
decreases-loop-i l = length l.text - l.i
