-- An accepted lowering of a schema whose texts and numbers are within their widths writes a sheet of the graph sheet's form.
-- Assumes nothing: what is asked of the name conversions are the section's parameters, as in GraphOk.
use Prim.Native.Nat.{ℕ, ◌^◌, ◌≤◌}
use mathlib.Core.Path.{◌≡◌}
use mathlib.Core.Logic.{⊎_elim}
use mathlib.Core.Bool.{true, ◌&&◌}
use mathlib.Core.List.{List}
use mathlib.Core.Option.{some}
use native.Mathlib.Omega.{arith}
use lib.Dec.{eqb, leb, ltb}
use borrow.Author.Tests.{eqb-true, leb-true, ltb-true, lt-ltb}
use lib.ListN.{length}
use Rattle.sheet.specs.Lengths.{lengths_of, good_lengths}
use Rattle.sheet.specs.Rows.{Sheet}
use Rattle.xsd_types.specs.State.{State, schema_ok, counters_ok, event_number_ok, item_passes, events_ok, proper}
use Rattle.xsd_types.specs.Count.{good, state_of}
use Rattle.ir_types.specs.Types.{TypeGraph}
use Rattle.ir_types.specs.Form.{graph_form}
use Rattle.ir_types.proofs.Laws.GraphForm.{graph-form}
use Rattle.ir_lower.specs.Lower.{lower}
use Rattle.ir_lower.specs.Call.{Lowered, unchanged, lower_state, lowering}
use Rattle.ir_lower.specs.Outcome.{LoweringOutcome}
use Rattle.ir_lower.proofs.Laws.GraphOk.{small_event, lower-ok}
use Rattle.ir_lower.proofs.Laws.Outcome.{unchanged-number, lowering-1, lowering-2, lowering-state, outcome, outcome-zero}
use Rattle.text.specs.Text.{every}
use Rattle.std.proofs.lemmas.Bool.{or_cases, cases_Bool}
use Rattle.text.proofs.Laws.Tests.{and-true-left}
use Rattle.xsd_types.proofs.Laws.Sound.{proper-parts}
use Rattle.xsd_types.proofs.Laws.Events.{passing-parts, heads-weaken}
use Rattle.ir_types.specs.Ok.{is_small, graph_ok}
use Rattle.sheet.specs.Form.{words}
use Rattle.xsd_types.proofs.Laws.Count.{proper-state_of}

not-zero : (n : ℕ) (graph : Sheet) (scratch : List ℕ) (l : Lowered) → 1 ≤ n → l ≡ unchanged n graph scratch → l.answer.number ≡ 0 → ⊥
not-zero n graph scratch l h e z = let q = unchanged-number n graph scratch l e in omega arith

-- a proper state's schema, and the numbers of its items, which are below its events
proper-schema : (s : State) → proper s ≡ true → schema_ok s.reader.schema ≡ true
proper-schema s h = (proper-parts s h).3

number_small : (events n : ℕ) → events ≤ 1000000 → event_number_ok events n ≡ true → is_small n ≡ true
unfolding event_number_ok is_small
number_small events n few e =
    ⊎_elim (λ z. lt-ltb n (2 ^ 32) (omega (arith, eqb-true n 0 z))) (λ z. lt-ltb n (2 ^ 32) (omega (arith, ltb-true n events z))) (or_cases (eqb n 0) (ltb n events) e)

proper-small : (s : State) → proper s ≡ true → every (item_passes small_event) s.reader.schema.items ≡ true
unfolding events_ok counters_ok small_event
proper-small s h =
    let p = proper-parts s h in
    let few = leb-true s.events 1000000 (and-true-left (leb s.events 1000000) (leb s.open_tags 255) p.0) in
    (passing-parts small_event s.reader (heads-weaken (λ v n. event_number_ok s.events n) small_event (λ v n. number_small s.events n few) s.reader p.4)).0

outcome-form : (s : State) (graph : Sheet) (scratch : List ℕ) (l : Lowered) → schema_ok s.reader.schema ≡ true
    → every (item_passes small_event) s.reader.schema.items ≡ true → LoweringOutcome s graph scratch l → l.answer.number ≡ 0 → graph_form l.graph ≡ true
outcome-form s graph scratch l h w o z =
    let x = outcome-zero s graph scratch l o z in
    rw x.sheet (graph-form x.lowered (length graph.rows) (length graph.names) (lower-ok s.reader.schema x.lowered h w x.from) x.fits)

pub state-form : (s : State) (graph : Sheet) (scratch : List ℕ) → schema_ok s.reader.schema ≡ true → every (item_passes small_event) s.reader.schema.items ≡ true
    → (lower_state s graph scratch).answer.number ≡ 0
    → graph_form (lower_state s graph scratch).graph ≡ true
state-form s graph scratch h w z = outcome-form s graph scratch (lower_state s graph scratch) h w (outcome s graph scratch) z

good-form : (x graph : Sheet) (scratch : List ℕ) → good_lengths (lengths_of x) && good_lengths (lengths_of graph) ≡ true → good x ≡ true → proper (state_of x) ≡ true
    → (lowering x graph scratch).answer.number ≡ 0
    → graph_form (lowering x graph scratch).graph ≡ true
good-form x graph scratch k g h z =
    let e = lowering-state x graph scratch k g in
    rw e (state-form (state_of x) graph scratch (proper-schema (state_of x) h) (proper-small (state_of x) h) (rw e at z))

pub lowering-form : (x graph : Sheet) (scratch : List ℕ) → words x.rows ≡ true → (lowering x graph scratch).answer.number ≡ 0
    → graph_form (lowering x graph scratch).graph ≡ true
lowering-form x graph scratch w z =
    ⊎_elim
    (λ k. ⊎_elim (λ g. good-form x graph scratch k g (proper-state_of x w g) z) (λ g. absurd (not-zero 2 graph scratch _ (omega arith) (lowering-2 x graph scratch k g) z)) (cases_Bool (good x)))
    (λ k. absurd (not-zero 1 graph scratch _ (omega arith) (lowering-1 x graph scratch k) z))
    (cases_Bool (good_lengths (lengths_of x) && good_lengths (lengths_of graph)))

-- and its texts and numbers have the widths by which a graph sheet can be read back
pub lowering-ok : (x graph : Sheet) (scratch : List ℕ) → words x.rows ≡ true → (lowering x graph scratch).answer.number ≡ 0 → (g : TypeGraph)
    → lower (state_of x).reader.schema ≡ some g → graph_ok g ≡ true
lowering-ok x graph scratch w z g c =
    ⊎_elim
    (λ k. ⊎_elim (λ e. let h = proper-state_of x w e in lower-ok (state_of x).reader.schema g (proper-schema (state_of x) h) (proper-small (state_of x) h) c)
    (λ e. absurd (not-zero 2 graph scratch _ (omega arith) (lowering-2 x graph scratch k e) z)) (cases_Bool (good x)))
    (λ k. absurd (not-zero 1 graph scratch _ (omega arith) (lowering-1 x graph scratch k) z))
    (cases_Bool (good_lengths (lengths_of x) && good_lengths (lengths_of graph)))
