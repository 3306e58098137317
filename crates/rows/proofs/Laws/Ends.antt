-- Laws of a pass that asks all that a sheet's form asks of its rows at once: the ends of the pairs only grow, so that a row whose pairs end behind the
-- last end fails at once, and the tests of a row and of the rows behind it come apart. Assumes nothing.
use Rattle.std.specs.Prelude.{if◌then◌else◌}
use mathlib.Core.Path.{◌≡◌, refl, sym}
use mathlib.Core.Bool.{Bool, true, false, ◌&&◌, false≢true, and-false}
use mathlib.Core.List.{List, []}
use Prim.Native.Nat.{ℕ}
use native.Mathlib.Omega.{arith}
use lib.Dec.{eqb, leb}
use borrow.Author.Tests.{le-leb, eqb-true}
use Rattle.sheet.specs.Rows.{Ten}
use Rattle.sheet.specs.Form.{covered}
use Rattle.sheet.proofs.Laws.Unpacks.{covered-from}

-- a row's end is at most the limit where the last one is the limit
pub end-within : (limit k : ℕ) (ts : List Ten) → eqb (covered k ts) limit ≡ true → leb k limit ≡ true
end-within limit k ts e = le-leb k limit (omega (arith, covered-from k ts, eqb-true (covered k ts) limit e))

-- the tests of a row and of all behind it, taken apart: f, m, v, l of the row, e, i, c of the others, q and r of the end
pub tests-apart : (f m v l e i c q r : Bool) → (q ≡ true → l ≡ true) → (if f && m && v && l then e && (i && (c && (q && r))) else false) ≡ (f && e) && ((m && i) && ((v && c) && (q && r)))
tests-apart false m v l e i c q r h = refl
tests-apart true false v l e i c q r h = sym (and-false e)
tests-apart true true false l e i c q r h = rw (and-false i, and-false e)
tests-apart true true true false e i c false r h = rw (and-false c, and-false i, and-false e)
tests-apart true true true false e i c true r h = absurd (false≢true (h refl))
tests-apart true true true true e i c q r h = refl
