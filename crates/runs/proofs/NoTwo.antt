-- "From a good sheet no call of the run gives 2." Assumes nothing.
use Prim.Native.Nat.{ℕ}
use mathlib.Core.Path.{◌≡◌, refl}
use mathlib.Core.Bool.{true}
use mathlib.Core.List.{List, [], ◌∷◌}
use native.Mathlib.Omega.{arith}
use lib.ListN.{length}
use Rattle.text.specs.Text.{Text}
use Rattle.text.proofs.Laws.Tests.{if-cases}
use Rattle.sheet.specs.Rows.{Sheet}
use Rattle.sheet.specs.Lengths.{tape_lengths, Lengths, lengths_of, good_lengths}
use Rattle.xsd_types.specs.State.{State}
use Rattle.xsd_types.specs.Count.{good, state_of}
use Rattle.xsd_parser.specs.Read.{read_state}
use Rattle.xsd_parser.proofs.Laws.Answers.{reading-not-two}
use Rattle.ir_lower.specs.Call.{Lowered, unchanged, cleared, lower_state}
use Rattle.ir_lower.specs.Outcome.{LoweringOutcome}
use Rattle.ir_lower.proofs.Laws.Outcome.{outcome}
use Rattle.runs.specs.Runs.{Call, Answered, RunHolds, AfterCall, hold, run_calls, answered_first, run, read_held, lower_held, held_after, refused_with}

-- the number of an answer
abbrev pub number_of : Answered → ℕ
number_of (Answered.read_as a n) = a.number
number_of (Answered.lowered_as l) = l.answer.number

-- each answer of a list is not 2
pub data NoneTwo : List Answered → Type 0 where
  none_left : NoneTwo []
  one_more : {a : Answered} {rest : List Answered} → (number_of a ≡ 2 → ⊥) → NoneTwo rest → NoneTwo (a ∷ rest)

one-not-two : ◌≡◌ {A = ℕ} 1 2 → ⊥
one-not-two e = omega (arith, e)

read-not-two : (lent : Lengths) (s : State) (text : Text) (marks : List ℕ) → (read_held (RunHolds.holding lent s) text marks).answer.number ≡ 2 → ⊥
unfolding read_held held_after refused_with
read-not-two lent s text marks =
    if-cases (λ (st : AfterCall). st.answer.number ≡ 2 → ⊥) (tape_lengths (length text) (length marks)) (λ t e. reading-not-two lent s text marks e) (λ t e. omega arith)

outcome-not-two : (s : State) (graph : Sheet) (scratch : List ℕ) (l : Lowered) → LoweringOutcome s graph scratch l → l.answer.number ≡ 2 → ⊥
unfolding unchanged cleared
outcome-not-two s graph scratch l (LoweringOutcome.short a e) z = omega (arith, rw e at z)
outcome-not-two s graph scratch l (LoweringOutcome.rootless a b e) z = omega (arith, rw e at z)
outcome-not-two s graph scratch l (LoweringOutcome.unknown a b c e) z = omega (arith, rw e at z)
outcome-not-two s graph scratch l (LoweringOutcome.repeated a b g c row r e) z = omega (arith, rw e at z)
outcome-not-two s graph scratch l (LoweringOutcome.tight a b g c r f e) z = omega (arith, rw e at z)
outcome-not-two s graph scratch l (LoweringOutcome.fitting a b g c r f e) z = omega (arith, rw e at z)

lower-not-two : (lent : Lengths) (s : State) (graph : Sheet) (scratch : List ℕ) → (lower_held (RunHolds.holding lent s) graph scratch).answer.number ≡ 2 → ⊥
unfolding lower_held unchanged
lower-not-two lent s graph scratch =
    if-cases (λ (l : Lowered). l.answer.number ≡ 2 → ⊥) (good_lengths (lengths_of graph))
    (λ t. outcome-not-two s graph scratch (lower_state s graph scratch) (outcome s graph scratch)) (λ t e. omega arith)

-- a reading on a state leaves a state
pub read-holds : (lent : Lengths) (s : State) (text : Text) (marks : List ℕ) → (s' : State) × ((read_held (RunHolds.holding lent s) text marks).held ≡ RunHolds.holding lent s')
unfolding read_held held_after refused_with
read-holds lent s text marks =
    if-cases (λ (st : AfterCall). (s' : State) × (st.held ≡ RunHolds.holding lent s')) (tape_lengths (length text) (length marks)) (λ t. ((read_state lent s text marks).state, refl)) (λ t. (s, refl))

pub no-two-from : (calls : List Call) (lent : Lengths) (s : State) → NoneTwo (run_calls calls (RunHolds.holding lent s)).answers
unfolding run_calls answered_first
no-two-from [] lent s = none_left
no-two-from (Call.reading text marks ∷ calls) lent s =
    let k = read-holds lent s text marks in
    let rest : NoneTwo (run_calls calls (read_held (RunHolds.holding lent s) text marks).held).answers = rw k.1 (no-two-from calls lent k.0) in
    one_more (read-not-two lent s text marks) rest
no-two-from (Call.lowering graph scratch ∷ calls) lent s = one_more (lower-not-two lent s graph scratch) (no-two-from calls lent s)

-- a sheet of bad lengths gives 1 at each call
no-two-lengths : (calls : List Call) (x : Sheet) → NoneTwo (run_calls calls (RunHolds.bad_lengths x)).answers
unfolding run_calls answered_first read_held refused_with lower_held unchanged
no-two-lengths [] x = none_left
no-two-lengths (Call.reading text marks ∷ calls) x = one_more one-not-two (no-two-lengths calls x)
no-two-lengths (Call.lowering graph scratch ∷ calls) x = one_more one-not-two (no-two-lengths calls x)

pub no-two : (x : Sheet) (calls : List Call) → good x ≡ true → NoneTwo (run x calls).answers
unfolding run hold
no-two x calls g =
    if-cases (λ (h : RunHolds). NoneTwo (run_calls calls h).answers) (good_lengths (lengths_of x)) (λ l. rw g (no-two-from calls (lengths_of x) (state_of x))) (λ l. no-two-lengths calls x)
