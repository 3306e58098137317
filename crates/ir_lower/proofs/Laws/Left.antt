-- What a lowering leaves: buffers as long as those lent, the scratch zero after 0, 12, 13, 20 and 15, the graph zero after 12, 13, 20 and 15,
-- nothing changed after 1, 2 and 14. Assumes nothing.
use Prim.Native.Nat.{ℕ}
use mathlib.Core.Path.{◌≡◌, refl, sym, ap, ◌∙◌}
use mathlib.Core.Logic.{⊎_elim}
use mathlib.Core.Bool.{true, false, ◌&&◌, ◌||◌, false≢true, or-true}
use mathlib.Core.List.{List}
use lib.Dec.{eqb}
use lib.ListN.{length, length-replicate}
use Rattle.sheet.specs.Lengths.{lengths_of, good_lengths}
use Rattle.text.specs.Text.{between}
use Rattle.sheet.specs.Rows.{Sheet, all_zero}
use Rattle.xsd_types.specs.State.{State}
use Rattle.xsd_types.specs.Count.{good, state_of}
use Rattle.ir_types.specs.Types.{TypeGraph}
use Rattle.ir_types.specs.Rows.{rows_used}
use Rattle.ir_types.specs.Sheet.{graph_fits, graph_sheet}
use Rattle.ir_types.proofs.Laws.GraphForm.{sheet-rows-length, sheet-names-length}
use Rattle.ir_lower.specs.Call.{Lowered, zeros, unchanged, cleared, lowering}
use Rattle.ir_lower.specs.Left.{changes_nothing, clears_graph, clears_scratch, no_graph}
use Rattle.ir_lower.specs.Outcome.{LoweringOutcome}
use Rattle.ir_lower.proofs.Laws.Outcome.{lowering-1, lowering-2, lowering-state, outcome}
use Rattle.std.proofs.lemmas.Bool.{cases_Bool}
use Rattle.text.proofs.Laws.Tests.{or-false-right}
use Rattle.sheet.proofs.Laws.Numbers.{all_zero-replicate}

pub length-zeros : (xs : List ℕ) → length (zeros xs) ≡ length xs
unfolding zeros
length-zeros xs = length-replicate (length xs) 0

pub zeros-zero : (xs : List ℕ) → all_zero (zeros xs) ≡ true
unfolding zeros
zeros-zero xs = all_zero-replicate (length xs)

-- the three ways to leave the buffers
data Leaves (graph : Sheet) (scratch : List ℕ) (l : Lowered) : Type 0 where
  kept : (n : ℕ) → changes_nothing n ≡ true → clears_scratch n ≡ false → l ≡ unchanged n graph scratch → Leaves graph scratch l
  emptied : (n place : ℕ) → changes_nothing n ≡ false → clears_graph n ≡ true → l ≡ cleared n place graph scratch → Leaves graph scratch l
  written : (g : TypeGraph) → graph_fits (length graph.rows) (length graph.names) g ≡ true
      → l ≡ record { answer = record { number = 0; place = rows_used g }; graph = graph_sheet g (length graph.rows) (length graph.names); scratch = zeros scratch }
      → Leaves graph scratch l

outcome-leaves : (s : State) (graph : Sheet) (scratch : List ℕ) (l : Lowered) → LoweringOutcome s graph scratch l → Leaves graph scratch l
unfolding changes_nothing clears_graph clears_scratch between
outcome-leaves s graph scratch l (LoweringOutcome.short a e) = kept 14 refl refl e
outcome-leaves s graph scratch l (LoweringOutcome.rootless a b e) = emptied 12 0 refl refl e
outcome-leaves s graph scratch l (LoweringOutcome.unknown a b c e) = emptied 13 _ refl refl e
outcome-leaves s graph scratch l (LoweringOutcome.repeated a b g c row r e) = emptied 20 row refl refl e
outcome-leaves s graph scratch l (LoweringOutcome.tight a b g c r f e) = emptied 15 0 refl refl e
outcome-leaves s graph scratch l (LoweringOutcome.fitting a b g c r f e) = written g f e

lowering-leaves : (x graph : Sheet) (scratch : List ℕ) → Leaves graph scratch (lowering x graph scratch)
unfolding changes_nothing clears_graph clears_scratch between
lowering-leaves x graph scratch =
    ⊎_elim (λ h. ⊎_elim (λ k. rw (lowering-state x graph scratch h k) (outcome-leaves _ graph scratch _ (outcome (state_of x) graph scratch)))
    (λ k. kept 2 refl refl (lowering-2 x graph scratch h k)) (cases_Bool (good x)))
    (λ h. kept 1 refl refl (lowering-1 x graph scratch h))
    (cases_Bool (good_lengths (lengths_of x) && good_lengths (lengths_of graph)))

-- ---- what each way leaves

leaves-rows : (graph : Sheet) (scratch : List ℕ) (l : Lowered) → Leaves graph scratch l → length l.graph.rows ≡ length graph.rows
unfolding unchanged cleared
leaves-rows graph scratch l (kept n h k e) = rw e
leaves-rows graph scratch l (emptied n p h k e) = rw e (length-zeros graph.rows)
leaves-rows graph scratch l (written g f e) = rw e (sheet-rows-length g (length graph.rows) (length graph.names) f)

leaves-names : (graph : Sheet) (scratch : List ℕ) (l : Lowered) → Leaves graph scratch l → length l.graph.names ≡ length graph.names
unfolding unchanged cleared
leaves-names graph scratch l (kept n h k e) = rw e
leaves-names graph scratch l (emptied n p h k e) = rw e (length-zeros graph.names)
leaves-names graph scratch l (written g f e) = rw e (sheet-names-length g (length graph.rows) (length graph.names) f)

leaves-scratch : (graph : Sheet) (scratch : List ℕ) (l : Lowered) → Leaves graph scratch l → length l.scratch ≡ length scratch
unfolding unchanged cleared
leaves-scratch graph scratch l (kept n h k e) = rw e
leaves-scratch graph scratch l (emptied n p h k e) = rw e (length-zeros scratch)
leaves-scratch graph scratch l (written g f e) = rw e (length-zeros scratch)

leaves-zero : (graph : Sheet) (scratch : List ℕ) (l : Lowered) → Leaves graph scratch l → clears_scratch l.answer.number ≡ true → all_zero l.scratch ≡ true
unfolding unchanged cleared
leaves-zero graph scratch l (kept n h k e) z = absurd (false≢true (sym k ∙ (rw e at z)))
leaves-zero graph scratch l (emptied n p h k e) z = rw e (zeros-zero scratch)
leaves-zero graph scratch l (written g f e) z = rw e (zeros-zero scratch)

leaves-graph : (graph : Sheet) (scratch : List ℕ) (l : Lowered) → Leaves graph scratch l → clears_graph l.answer.number ≡ true → l.graph ≡ no_graph graph
unfolding unchanged cleared no_graph clears_scratch clears_graph between
leaves-graph graph scratch l (kept n h k e) z = absurd (false≢true (sym (or-false-right (eqb n 0) (clears_graph n) k) ∙ (rw e at z)))
leaves-graph graph scratch l (emptied n p h k e) z = rw e
leaves-graph graph scratch l (written g f e) z = absurd (false≢true (rw e at z))

leaves-same : (graph : Sheet) (scratch : List ℕ) (l : Lowered) → Leaves graph scratch l → changes_nothing l.answer.number ≡ true → (l.graph ≡ graph) × (l.scratch ≡ scratch)
unfolding unchanged cleared changes_nothing between
leaves-same graph scratch l (kept n h k e) z = (ap (λ (x : Lowered). x.graph) e, ap (λ (x : Lowered). x.scratch) e)
leaves-same graph scratch l (emptied n p h k e) z = absurd (false≢true (sym h ∙ (rw e at z)))
leaves-same graph scratch l (written g f e) z = absurd (false≢true (rw e at z))

zero-clears : clears_scratch 0 ≡ true
unfolding clears_scratch
zero-clears = refl

graph-clears : (n : ℕ) → clears_graph n ≡ true → clears_scratch n ≡ true
unfolding clears_scratch
graph-clears n h = rw h (or-true (eqb n 0))

leaves-number : (graph : Sheet) (scratch : List ℕ) (l : Lowered) → Leaves graph scratch l → changes_nothing l.answer.number || clears_scratch l.answer.number ≡ true
unfolding unchanged cleared
leaves-number graph scratch l (kept n h k e) = rw (e, h)
leaves-number graph scratch l (emptied n p h k e) = rw (e, graph-clears n k) (or-true (changes_nothing n))
leaves-number graph scratch l (written g f e) = rw (e, zero-clears) (or-true (changes_nothing 0))

-- ---- the laws

pub lowering-rows-length : (x graph : Sheet) (scratch : List ℕ) → length (lowering x graph scratch).graph.rows ≡ length graph.rows
lowering-rows-length x graph scratch = leaves-rows graph scratch _ (lowering-leaves x graph scratch)

pub lowering-names-length : (x graph : Sheet) (scratch : List ℕ) → length (lowering x graph scratch).graph.names ≡ length graph.names
lowering-names-length x graph scratch = leaves-names graph scratch _ (lowering-leaves x graph scratch)

pub lowering-scratch-length : (x graph : Sheet) (scratch : List ℕ) → length (lowering x graph scratch).scratch ≡ length scratch
lowering-scratch-length x graph scratch = leaves-scratch graph scratch _ (lowering-leaves x graph scratch)

-- the scratch is all zero after 0, 12, 13, 20 and 15
pub lowering-scratch-zero : (x graph : Sheet) (scratch : List ℕ) → clears_scratch (lowering x graph scratch).answer.number ≡ true → all_zero (lowering x graph scratch).scratch ≡ true
lowering-scratch-zero x graph scratch h = leaves-zero graph scratch _ (lowering-leaves x graph scratch) h

-- the graph's buffers are zeros after 12, 13, 20 and 15
pub lowering-graph-zero : (x graph : Sheet) (scratch : List ℕ) → clears_graph (lowering x graph scratch).answer.number ≡ true → (lowering x graph scratch).graph ≡ no_graph graph
lowering-graph-zero x graph scratch h = leaves-graph graph scratch _ (lowering-leaves x graph scratch) h

-- nothing changed after 1, 2 and 14
pub lowering-unchanged : (x graph : Sheet) (scratch : List ℕ) → changes_nothing (lowering x graph scratch).answer.number ≡ true
    → ((lowering x graph scratch).graph ≡ graph) × ((lowering x graph scratch).scratch ≡ scratch)
lowering-unchanged x graph scratch h = leaves-same graph scratch _ (lowering-leaves x graph scratch) h

-- there is no other number
pub lowering-numbers : (x graph : Sheet) (scratch : List ℕ) → changes_nothing (lowering x graph scratch).answer.number || clears_scratch (lowering x graph scratch).answer.number ≡ true
lowering-numbers x graph scratch = leaves-number graph scratch _ (lowering-leaves x graph scratch)
