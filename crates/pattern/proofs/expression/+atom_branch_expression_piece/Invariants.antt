-- `expression`, `branch`, `piece` and `atom`: four times the bytes that are left, and the place in the order atom, piece, branch, expression,
-- since each calls the one before it at its own place, and an atom calls an expression one byte further on. Each loop: the scan goes on at i.
use Prim.Native.Nat.{ℕ, ◌+◌, ◌*◌, ◌-◌, ◌≤◌}
use mathlib.Core.Path.{◌≡◌}
use lib.ListN.{length, drop}
use Rattle.pattern.specs.Scan.{go, scan, start}
use Rattle.pattern.proofs.expression.+atom_branch_expression_piece.Given as goal

abbrev pub decreases-atom : goal.decreases-atom
decreases-atom l = 4 * (length l.s.now - l.at)

abbrev pub decreases-branch : goal.decreases-branch
decreases-branch l = 4 * (length l.s.now - l.at) + 2

abbrev pub decreases-expression : goal.decreases-expression
decreases-expression l = 4 * (length l.s.now - l.at) + 3

abbrev pub decreases-piece : goal.decreases-piece
decreases-piece l = 4 * (length l.s.now - l.at) + 1

abbrev pub invariant-branch-loop-i : goal.invariant-branch-loop-i
invariant-branch-loop-i l = (l.at ≤ l.i) × (l.i ≤ length l.s) × ((d : ℕ) → scan (go d start) (drop l.at l.s) ≡ scan (go d start) (drop l.i l.s))

abbrev pub decreases-branch-loop-i : goal.decreases-branch-loop-i
decreases-branch-loop-i l = length l.s - l.i

abbrev pub invariant-expression-loop-e : goal.invariant-expression-loop-e
invariant-expression-loop-e l = (l.at ≤ l.i) × (l.i ≤ length l.s) × ((d : ℕ) → scan (go d start) (drop l.at l.s) ≡ scan (go d start) (drop l.i l.s))

abbrev pub decreases-expression-loop-e : goal.decreases-expression-loop-e
decreases-expression-loop-e l = length l.s - l.i
