-- `xml_parts::steps::long_end` meets its contract. The loop's invariant: the name goes on from the end so far, where no name byte below 128 stands. The measure is
-- how much is left. Assumes nothing.
use Prim.Native.Nat.{◌+◌, ◌-◌}
use mathlib.Core.Path.{◌≡◌}
use mathlib.Core.Bool.{false}
use lib.ListN.{length, drop}
use Rattle.text.specs.Text.{first}
use Rattle.xml.specs.Classes.{is_name, is_byte_of}
use Rattle.xml.specs.Steps.{leading_name}
use Rattle.xml_parts.proofs.steps.long_end.Given as goal

abbrev pub invariant-loop-end : goal.invariant-loop-end
invariant-loop-end l =
    (l.end + length (leading_name (drop l.end l.text)) ≡ l.at + length (leading_name (drop l.at l.text))) × (is_byte_of is_name (first (drop l.end l.text)) ≡ false)

abbrev pub decreases-loop-end : goal.decreases-loop-end
decreases-loop-end l = length l.text - l.end
