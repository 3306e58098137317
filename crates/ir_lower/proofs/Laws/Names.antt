-- What an accepted lowering says of the types' names, and where 20 comes with which place. By the outcomes of a lowering. Assumes nothing.
use Prim.Native.Nat.{ℕ, ◌≤◌}
use mathlib.Core.Path.{◌≡◌, sym, ap, ◌∙◌}
use mathlib.Core.Logic.{◌↔◌, ⊎_elim}
use mathlib.Core.Bool.{true, false, ◌&&◌, false≢true}
use mathlib.Core.List.{List, []}
use mathlib.Core.Option.{some, none}
use native.Mathlib.Omega.{arith}
use lib.ListN.{length}
use Rattle.std.proofs.lemmas.Bool.{cases_Bool, false_from_ne_true}
use Rattle.sheet.specs.Lengths.{lengths_of, good_lengths}
use Rattle.sheet.specs.Rows.{Sheet}
use Rattle.xsd_types.specs.Types.{Schema, simple_types}
use Rattle.xsd_types.specs.State.{State}
use Rattle.xsd_types.specs.Count.{good, state_of}
use Rattle.ir_types.specs.Types.{TypeGraph}
use Rattle.ir_types.specs.Distinct.{distinct_texts, distinct}
use Rattle.ir_types.specs.Sheet.{graph_sheet}
use Rattle.ir_types.specs.Last.{insert_all}
use Rattle.ir_types.proofs.Laws.Last.{last-distinct}
use Rattle.ir_lower.specs.Lower.{any_unknown, finished_definitions, lower}
use Rattle.ir_lower.specs.Finished.{finished_names}
use Rattle.ir_lower.specs.Repeated.{heads, repeated_row, FirstRepeat}
use Rattle.ir_lower.specs.Call.{Lowered, cleared, lower_state, lowering, scratch_least}
use Rattle.ir_lower.specs.Outcome.{LoweringOutcome, LoweringAccepted, NameTwice}
use Rattle.ir_lower.proofs.Laws.Types.{lower-some, lower-types, lower-names}
use Rattle.ir_lower.proofs.Laws.Repeated.{repeated-none, repeated-first}
use Rattle.ir_lower.proofs.Laws.Outcome.{unchanged-number, cleared-number, lowering-1, lowering-2, lowering-state, outcome, outcome-zero}

-- what is neither 1 nor 2 is a good sheet's
judged : (n : ℕ) (x graph : Sheet) (scratch : List ℕ) → (n ≡ 1 → ⊥) → (n ≡ 2 → ⊥) → (lowering x graph scratch).answer.number ≡ n
    → (good_lengths (lengths_of x) && good_lengths (lengths_of graph) ≡ true) × (good x ≡ true)
judged n x graph scratch a b e =
    ⊎_elim (λ h. ⊎_elim (λ k. (h, k)) (λ k. absurd (b (sym e ∙ unchanged-number 2 graph scratch _ (lowering-2 x graph scratch h k)))) (cases_Bool (good x)))
    (λ h. absurd (a (sym e ∙ unchanged-number 1 graph scratch _ (lowering-1 x graph scratch h))))
    (cases_Bool (good_lengths (lengths_of x) && good_lengths (lengths_of graph)))

-- ---- 0

accepted-types : (s : Schema) (graph : Sheet) (l : Lowered) (g : TypeGraph) → lower s ≡ some g → repeated_row s ≡ none
    → l.graph ≡ graph_sheet g (length graph.rows) (length graph.names) → LoweringAccepted s graph l
unfolding distinct
accepted-types s graph l g e r q =
    record { lowered = g; from = e; types = lower-types s g e; names = lower-names s g e; once = rw (lower-names s g e) ((repeated-none s).0 r); sheet = q }

outcome-accepted : (s : State) (graph : Sheet) (scratch : List ℕ) (l : Lowered) → LoweringOutcome s graph scratch l → l.answer.number ≡ 0 → LoweringAccepted s.reader.schema graph l
outcome-accepted s graph scratch l o z =
    let x = outcome-zero s graph scratch l o z in
    accepted-types s.reader.schema graph l x.lowered x.from x.once x.sheet

pub lowering-accepted : (x graph : Sheet) (scratch : List ℕ) → (lowering x graph scratch).answer.number ≡ 0 → LoweringAccepted (state_of x).reader.schema graph (lowering x graph scratch)
lowering-accepted x graph scratch z =
    let j = judged 0 x graph scratch (λ e. omega arith) (λ e. omega arith) z in
    let e = lowering-state x graph scratch j.0 j.1 in
    rw e (outcome-accepted (state_of x) graph scratch (lower_state (state_of x) graph scratch) (outcome (state_of x) graph scratch) (rw e at z))

-- paper 01's rule changes nothing there
pub lowering-last : (x graph : Sheet) (scratch : List ℕ) → (lowering x graph scratch).answer.number ≡ 0
    → insert_all (finished_definitions (state_of x).reader.schema) [] ≡ finished_definitions (state_of x).reader.schema
lowering-last x graph scratch z =
    let a = lowering-accepted x graph scratch z in
    last-distinct (finished_definitions (state_of x).reader.schema) (rw a.types at a.once)

-- ---- 20

outcome-twice : (s : State) (graph : Sheet) (scratch : List ℕ) (l : Lowered) → LoweringOutcome s graph scratch l → l.answer.number ≡ 20
    → (scratch_least ≤ length scratch) × (s.reader.root_seen ≡ true) × (any_unknown (simple_types s.reader.schema.items) ≡ false)
    × (repeated_row s.reader.schema ≡ some l.answer.place)
unfolding cleared
outcome-twice s graph scratch l (LoweringOutcome.short a e) z = let n = unchanged-number 14 graph scratch l e in absurd (omega arith)
outcome-twice s graph scratch l (LoweringOutcome.rootless a b e) z = let n = cleared-number 12 0 graph scratch l e in absurd (omega arith)
outcome-twice s graph scratch l (LoweringOutcome.unknown a b c e) z = let n = cleared-number 13 _ graph scratch l e in absurd (omega arith)
outcome-twice s graph scratch l (LoweringOutcome.repeated a b g c row r e) z = (a, b, (lower-some s.reader.schema g c).0, r ∙ ap (λ (x : Lowered). some x.answer.place) (sym e))
outcome-twice s graph scratch l (LoweringOutcome.tight a b g c r f e) z = let n = cleared-number 15 0 graph scratch l e in absurd (omega arith)
outcome-twice s graph scratch l (LoweringOutcome.fitting a b g c r f e) z = let n : l.answer.number ≡ 0 = rw e in absurd (omega arith)

twice-outcome : (s : State) (graph : Sheet) (scratch : List ℕ) (l : Lowered) → LoweringOutcome s graph scratch l → scratch_least ≤ length scratch → s.reader.root_seen ≡ true
    → any_unknown (simple_types s.reader.schema.items) ≡ false → distinct_texts (finished_names s.reader.schema) ≡ false → l.answer.number ≡ 20
twice-outcome s graph scratch l (LoweringOutcome.short a e) h k u t = absurd (omega arith)
twice-outcome s graph scratch l (LoweringOutcome.rootless a b e) h k u t = absurd (false≢true (sym b ∙ k))
twice-outcome s graph scratch l (LoweringOutcome.unknown a b c e) h k u t = absurd (false≢true (sym u ∙ c))
twice-outcome s graph scratch l (LoweringOutcome.repeated a b g c row r e) h k u t = cleared-number 20 row graph scratch l e
twice-outcome s graph scratch l (LoweringOutcome.tight a b g c r f e) h k u t = absurd (false≢true (sym t ∙ (repeated-none s.reader.schema).0 r))
twice-outcome s graph scratch l (LoweringOutcome.fitting a b g c r f e) h k u t = absurd (false≢true (sym t ∙ (repeated-none s.reader.schema).0 r))

module _ (x graph : Sheet) (scratch : List ℕ) where
  -- a lowering under 20, by the state
  repeats : (lowering x graph scratch).answer.number ≡ 20 → let s = (state_of x).reader.schema in
      (scratch_least ≤ length scratch) × ((state_of x).reader.root_seen ≡ true) × (any_unknown (simple_types s.items) ≡ false) × (repeated_row s ≡ some (lowering x graph scratch).answer.place)
  repeats z =
      let j = judged 20 x graph scratch (λ e. omega arith) (λ e. omega arith) z in
      let e = lowering-state x graph scratch j.0 j.1 in
      rw e (outcome-twice (state_of x) graph scratch (lower_state (state_of x) graph scratch) (outcome (state_of x) graph scratch) (rw e at z))

  not-distinct : (s : Schema) (row : ℕ) → repeated_row s ≡ some row → distinct_texts (finished_names s) ≡ false
  not-distinct s row r =
      false_from_ne_true (distinct_texts (finished_names s)) (λ d. let n = (repeated-none s).1 d in let z : ◌≡◌ {A = ℕ} 0 1 = cc in omega arith)

  pub repeated-exactly : ((lowering x graph scratch).answer.number ≡ 20) ↔ NameTwice x graph scratch
  repeated-exactly = (there, back)
    where
      there : (lowering x graph scratch).answer.number ≡ 20 → NameTwice x graph scratch
      there z =
          let j = judged 20 x graph scratch (λ e. omega arith) (λ e. omega arith) z in
          let r = repeats z in
          record { lengths = j.0; is_good = j.1; enough = r.0; root = r.1; known = r.2; twice = not-distinct _ _ r.3 }

      back : NameTwice x graph scratch → (lowering x graph scratch).answer.number ≡ 20
      back n =
          rw (lowering-state x graph scratch n.lengths n.is_good)
          (twice-outcome (state_of x) graph scratch _ (outcome (state_of x) graph scratch) n.enough n.root n.known n.twice)

  pub repeated-place : (lowering x graph scratch).answer.number ≡ 20 → FirstRepeat [] (heads 2 (state_of x).reader.schema.items) (lowering x graph scratch).answer.place
  repeated-place z = repeated-first (state_of x).reader.schema _ (repeats z).3
