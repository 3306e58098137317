-- `xml_parts::values::is_number` meets its contract. The loop's invariant: the number so far is a code point, and the digits left say what all say. Assumes nothing.
use Prim.Native.Nat.{◌≤◌}
use mathlib.Core.Path.{◌≡◌}
use lib.ListN.{drop}
use Rattle.xml.specs.Values.{is_number}
use Rattle.xml_parts.proofs.values.is_number.Given as goal

abbrev pub invariant-loop-i : goal.invariant-loop-i
invariant-loop-i l = (l.v ≤ 1114111) × (is_number l.base l.v (drop l.i l.text) ≡ is_number l.base 0 (drop l.at l.text))
