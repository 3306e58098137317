-- `xsd_replace::offsets::reoffset` meets its contract. The loop's invariant: whatever the rows from `place` on are to become, those from i on, with their texts from
-- `next` on, are still to become that. Assumes nothing.
use Prim.Native.Nat.{ℕ}
use mathlib.Core.List.{List}
use Rattle.xsd_replace.specs.Offsets.{Offsets}
use Rattle.xsd_replace.proofs.offsets.reoffset.Given as goal

abbrev pub invariant-loop-i : goal.invariant-loop-i
invariant-loop-i l = (goal : List ℕ) (total : ℕ) → Offsets l.initial.rows l.place l.end l.at goal total → Offsets l.rows l.i l.end l.next goal total
