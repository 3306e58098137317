-- Every lowering comes under one condition of the table, with that condition's number, place, graph and scratch. Assumes nothing.
use Prim.Native.Nat.{ℕ, ◌≤◌}
use mathlib.Core.Path.{◌≡◌, refl, ap}
use mathlib.Core.Logic.{⊎_elim}
use mathlib.Core.Bool.{true, false, ◌&&◌}
use mathlib.Core.List.{List}
use mathlib.Core.Option.{Option, some, none}
use native.Mathlib.Omega.{arith}
use lib.Dec.{leb}
use lib.ListN.{length}
use borrow.Author.Tests.{leb-true, leb-false}
use Rattle.sheet.specs.Lengths.{lengths_of, good_lengths}
use Rattle.sheet.specs.Rows.{Sheet}
use Rattle.xsd_types.specs.State.{State}
use Rattle.xsd_types.specs.Count.{good, state_of}
use Rattle.ir_types.specs.Types.{TypeGraph}
use Rattle.ir_types.specs.Sheet.{graph_fits, graph_sheet}
use Rattle.ir_lower.specs.Lower.{lower}
use Rattle.ir_lower.specs.Call.{Lowered, unchanged, cleared, graph_written, repeated_or_written, refused_or_written, lower_finished, lower_state, lowering, scratch_least}
use Rattle.ir_lower.specs.Repeated.{repeated_row}
use Rattle.ir_lower.specs.Outcome.{LoweringOutcome}
use Rattle.ir_lower.proofs.Laws.Refusals.{refused-exactly}
use Rattle.std.proofs.lemmas.Bool.{cases_Bool}

-- the number of a refusal
pub unchanged-number : (n : ℕ) (graph : Sheet) (scratch : List ℕ) (l : Lowered) → l ≡ unchanged n graph scratch → l.answer.number ≡ n
unfolding unchanged
unchanged-number n graph scratch l e = rw e

pub cleared-number : (n place : ℕ) (graph : Sheet) (scratch : List ℕ) (l : Lowered) → l ≡ cleared n place graph scratch → l.answer.number ≡ n
unfolding cleared
cleared-number n place graph scratch l e = rw e

-- 1 and 2, and then the state decides
pub lowering-1 : (x graph : Sheet) (scratch : List ℕ) → good_lengths (lengths_of x) && good_lengths (lengths_of graph) ≡ false → lowering x graph scratch ≡ unchanged 1 graph scratch
unfolding lowering
lowering-1 x graph scratch h = rw h

pub lowering-2 : (x graph : Sheet) (scratch : List ℕ) → good_lengths (lengths_of x) && good_lengths (lengths_of graph) ≡ true → good x ≡ false → lowering x graph scratch ≡ unchanged 2 graph scratch
unfolding lowering
lowering-2 x graph scratch h k = rw (h, k)

pub lowering-state : (x graph : Sheet) (scratch : List ℕ) → good_lengths (lengths_of x) && good_lengths (lengths_of graph) ≡ true → good x ≡ true
    → lowering x graph scratch ≡ lower_state (state_of x) graph scratch
unfolding lowering
lowering-state x graph scratch h k = rw (h, k)

-- the state's call, branch by branch
state-short : (s : State) (graph : Sheet) (scratch : List ℕ) → leb scratch_least (length scratch) ≡ false → lower_state s graph scratch ≡ unchanged 14 graph scratch
unfolding lower_state
state-short s graph scratch h = rw h

state-rootless : (s : State) (graph : Sheet) (scratch : List ℕ) → leb scratch_least (length scratch) ≡ true → s.reader.root_seen ≡ false
    → lower_state s graph scratch ≡ cleared 12 0 graph scratch
unfolding lower_state lower_finished
state-rootless s graph scratch h k = rw (h, k)

state-lowered : (s : State) (graph : Sheet) (scratch : List ℕ) → leb scratch_least (length scratch) ≡ true → s.reader.root_seen ≡ true
    → lower_state s graph scratch ≡ refused_or_written s.reader.schema (lower s.reader.schema) graph scratch
unfolding lower_state lower_finished
state-lowered s graph scratch h k = rw (h, k)

-- 20, and then room decides
named-outcome : (s : State) (graph : Sheet) (scratch : List ℕ) → scratch_least ≤ length scratch → s.reader.root_seen ≡ true
    → (g : TypeGraph) → lower s.reader.schema ≡ some g → (o : Option ℕ) → repeated_row s.reader.schema ≡ o → LoweringOutcome s graph scratch (repeated_or_written o g graph scratch)
unfolding graph_written
named-outcome s graph scratch h k g e (some row) r = LoweringOutcome.repeated h k g e row r refl
named-outcome s graph scratch h k g e none r =
    ⊎_elim (λ f. rw f (LoweringOutcome.fitting h k g e r f refl)) (λ f. rw f (LoweringOutcome.tight h k g e r f refl))
    (cases_Bool (graph_fits (length graph.rows) (length graph.names) g))

lowered-outcome : (s : State) (graph : Sheet) (scratch : List ℕ) → scratch_least ≤ length scratch → s.reader.root_seen ≡ true
    → (o : Option TypeGraph) → lower s.reader.schema ≡ o → LoweringOutcome s graph scratch (refused_or_written s.reader.schema o graph scratch)
lowered-outcome s graph scratch h k none e = LoweringOutcome.unknown h k ((refused-exactly s.reader.schema).0 e) refl
lowered-outcome s graph scratch h k (some g) e = named-outcome s graph scratch h k g e (repeated_row s.reader.schema) refl

pub outcome : (s : State) (graph : Sheet) (scratch : List ℕ) → LoweringOutcome s graph scratch (lower_state s graph scratch)
outcome s graph scratch =
    ⊎_elim (λ h. let le = leb-true scratch_least (length scratch) h in
    ⊎_elim (λ k. rw (state-lowered s graph scratch h k) (lowered-outcome s graph scratch le k (lower s.reader.schema) refl))
    (λ k. LoweringOutcome.rootless le k (state-rootless s graph scratch h k)) (cases_Bool s.reader.root_seen))
    (λ h. LoweringOutcome.short (leb-false scratch_least (length scratch) h) (state-short s graph scratch h))
    (cases_Bool (leb scratch_least (length scratch)))

-- the one case whose number is 0: the graph, and that it fits
pub record GraphWhole (s : State) (graph : Sheet) (l : Lowered) : Type 0 where
  pub lowered : TypeGraph
  pub from : lower s.reader.schema ≡ some lowered
  pub once : repeated_row s.reader.schema ≡ none
  pub fits : graph_fits (length graph.rows) (length graph.names) lowered ≡ true
  pub sheet : l.graph ≡ graph_sheet lowered (length graph.rows) (length graph.names)

pub outcome-zero : (s : State) (graph : Sheet) (scratch : List ℕ) (l : Lowered) → LoweringOutcome s graph scratch l → l.answer.number ≡ 0 → GraphWhole s graph l
outcome-zero s graph scratch l (LoweringOutcome.short a e) z = let n = unchanged-number 14 graph scratch l e in absurd (omega arith)
outcome-zero s graph scratch l (LoweringOutcome.rootless a b e) z = let n = cleared-number 12 0 graph scratch l e in absurd (omega arith)
outcome-zero s graph scratch l (LoweringOutcome.unknown a b c e) z = let n = cleared-number 13 _ graph scratch l e in absurd (omega arith)
outcome-zero s graph scratch l (LoweringOutcome.repeated a b g c row r e) z = let n = cleared-number 20 row graph scratch l e in absurd (omega arith)
outcome-zero s graph scratch l (LoweringOutcome.tight a b g c r f e) z = let n = cleared-number 15 0 graph scratch l e in absurd (omega arith)
outcome-zero s graph scratch l (LoweringOutcome.fitting a b g c r f e) z =
    record { lowered = g; from = c; once = r; fits = f; sheet = ap (λ (x : Lowered). x.graph) e }
