-- Named in docs/PORT.md. No contract cites them. Assumes nothing.
use Rattle.std.specs.Prelude.{Option, Some, None, MatchOption}
use Prim.Native.Nat.{ℕ, zero, suc, ◌+◌, ◌*◌, ◌≤◌, ◌<◌}
use native.Mathlib.Omega.{arith}
use mathlib.Core.Path.{◌≡◌, refl, subst}
use mathlib.Core.Bool.{Bool, true, false}
use mathlib.Core.List.{List, [], ◌++◌}
use lib.ListN.{length, set, length-set}
use Rattle.sheet.specs.Rows.{Row}
use Rattle.ir_append.specs.declared.writer.GraphWriter.{GraphWriter}
use Rattle.ir_append.specs.Grows.{Grows}
use Rattle.ir_append.proofs.Laws.Onward.{Onward, onward-start, onward-step, onward-end}
use Rattle.ir_reduce.specs.declared.index.Indexed.{Indexed}
use Rattle.ir_reduce.specs.Marks.{pick}
use Rattle.ir_reduce.specs.Index.{AllIndexed, IndexedIs, NewHead, OldHead}
use Rattle.ir_reduce.specs.Steps.{Written, WrittenIs}

set_long : (b : Bool) (q : List ℕ) (n k : ℕ) → length (pick b (set q n k) q) ≡ length q
set_long true q n k = length-set q n k
set_long false q n k = refl

pub all_of : (rows names : List ℕ) (end : ℕ) (table : List ℕ) (r : Option Indexed) {i : Indexed} → IndexedIs rows names end table r → r ≡ Some i
    → AllIndexed rows names end table i.entries i.sorted
all_of rows names end table r w e = subst (λ (r : Option Indexed). IndexedIs rows names end table r) e w

pub old_of : (rows names before : List ℕ) (n p : ℕ) (after : List ℕ) (sorted : Bool) (r : Option ℕ)
    → MatchOption r (OldHead rows names before n p) (λ n'. NewHead rows names before n p after n' sorted) → r ≡ None → OldHead rows names before n p
old_of rows names before n p after sorted r g e = subst (λ (r : Option ℕ). MatchOption r (OldHead rows names before n p) (λ n'. NewHead rows names before n p after n' sorted)) e g

pub written_of : (rs : List Row) (rows names rows' names' : List ℕ) (r : Option ℕ) {place : ℕ} → WrittenIs rs rows names rows' names' r → r ≡ Some place → Written rs rows names rows' names' place
written_of rs rows names rows' names' r w e = subst (λ (r : Option ℕ). WrittenIs rs rows names rows' names' r) e w

-- rows that are being added
pub going_start : {w : GraphWriter} (all : List Row) → Onward w all w all
going_start all = onward-start all

pub going_step : {start w w' : GraphWriter} {all rest : List Row} (xs more : List Row) {u : Unit {0}} → Onward start all w rest → rest ≡ xs ++ more → Grows w xs w' (Some u) → Onward start all w' more
going_step xs more o e g = onward-step o e g

pub going_end : {start w : GraphWriter} {all rest : List Row} {u : Unit {0}} → Onward start all w rest → rest ≡ [] → Grows start all w (Some u)
going_end o e = onward-end o e

at_least : (r : ℕ) {l : ℕ} → (0 < r → 10 * r + 10 ≤ l) → 10 * r ≤ l
at_least zero h = omega arith
at_least (suc r) h = omega (arith, h (omega arith))
