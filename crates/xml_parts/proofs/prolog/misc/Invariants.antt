-- `xml_parts::prolog::misc` meets its contract. The loop's invariant: the parts from i on end where the whole ends, with turns enough for the bytes left. The measure is
-- how much is left. Assumes nothing.
use Prim.Native.Nat.{ℕ, ◌-◌, ◌<◌}
use mathlib.Core.Path.{◌≡◌}
use lib.ListN.{length, drop}
use Rattle.xml.specs.Prolog.{misc_from, misc}
use Rattle.xml_parts.proofs.prolog.misc.Given as goal

abbrev pub invariant-loop-i : goal.invariant-loop-i
invariant-loop-i l = (turns : ℕ) × (length l.text - l.i < turns) × (misc_from turns l.i (drop l.i l.text) ≡ misc l.at (drop l.at l.text))

abbrev pub decreases-loop-i : goal.decreases-loop-i
decreases-loop-i l = length l.text - l.i
