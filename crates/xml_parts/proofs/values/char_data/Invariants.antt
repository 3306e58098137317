-- `xml_parts::values::char_data` meets its contract: a run of bytes that need no look, then the byte that does. The loop's invariant: the character data from i on ends
-- where that from the start on ends. The measure is how much is left. Assumes nothing.
use Prim.Native.Nat.{◌-◌}
use mathlib.Core.Path.{◌≡◌}
use lib.ListN.{length, drop}
use Rattle.xml.specs.Values.{char_data}
use Rattle.xml_parts.proofs.values.char_data.Given as goal

abbrev pub invariant-loop-i : goal.invariant-loop-i
invariant-loop-i l = char_data l.i (drop l.i l.text) ≡ char_data l.at (drop l.at l.text)

abbrev pub decreases-loop-i : goal.decreases-loop-i
decreases-loop-i l = length l.text - l.i
