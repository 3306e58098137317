-- `xml_parts::steps::name_bytes` meets its contract. The loop's invariant: the run goes on where it does from the start. The measure is how much is left. Assumes nothing.
use Prim.Native.Nat.{◌-◌, ◌≤◌}
use mathlib.Core.Path.{◌≡◌}
use lib.ListN.{length, drop}
use Rattle.xml.specs.Classes.{is_name, is_byte_of}
use Rattle.xml.specs.Steps.{many}
use Rattle.xml_parts.proofs.steps.name_bytes.Given as goal

abbrev pub invariant-loop-i : goal.invariant-loop-i
invariant-loop-i l = (l.i ≤ length l.text) × (many (is_byte_of is_name) l.i (drop l.i l.text) ≡ many (is_byte_of is_name) l.at (drop l.at l.text))

abbrev pub decreases-loop-i : goal.decreases-loop-i
decreases-loop-i l = length l.text - l.i
