-- `tape::tests::pairs_inside` meets its contract. The loop's invariant: the pairs that are left, behind the end of the last one, answer for all of them.
-- Assumes nothing.
use Prim.Native.Nat.{◌+◌, ◌-◌, ◌*◌}
use mathlib.Core.Path.{◌≡◌}
use lib.ListN.{drop}
use Rattle.xsd_parser.specs.Tape.{pairs_of, all_inside}
use Rattle.tape.proofs.tests.pairs_inside.Given as goal

abbrev pub invariant-loop-i : goal.invariant-loop-i
invariant-loop-i l = all_inside l.limit l.end (pairs_of (l.n - l.i) (drop (l.from + 2 * l.i) l.marks)) ≡ all_inside l.limit 0 (pairs_of l.n (drop l.from l.marks))
