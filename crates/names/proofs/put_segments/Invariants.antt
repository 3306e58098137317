-- `names::put_segments` meets its contract. The loop's invariant: `end` bytes of the target are written, and the scan of s from b on is what is still to be written.
use mathlib.Core.Bool.{true}
use lib.ListN.{drop}
use Rattle.text.specs.Characters.{characters}
use Rattle.names.specs.Scans.{segments}
use Rattle.names.proofs.Laws.Writing.{Writing}
use Rattle.names.proofs.put_segments.Given as goal

abbrev pub invariant-loop-b : goal.invariant-loop-b
invariant-loop-b l =
    Writing (segments l.separator l.lowers true (characters l.s)) l.initial.out l.end l.out (segments l.separator l.lowers l.up (characters (drop l.b-index l.s)))
