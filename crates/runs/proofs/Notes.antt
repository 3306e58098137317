-- Order 14: two runs that differ in notes alone. A step sees no note (`step-alike`), so that records, readings and lowerings answer alike, call by
-- call; what is lent to a lowering counts by its lengths. Assumes nothing.
use Rattle.std.specs.Prelude.{if◌then◌else◌}
use mathlib.Core.Path.{◌≡◌, refl, sym, ap, ap₂, ◌∙◌}
use mathlib.Core.Bool.{Bool, true, false, not, ◌||◌, false≢true}
use mathlib.Core.List.{List, [], ◌∷◌}
use mathlib.Core.Option.{Option, some, none}
use Prim.Native.Nat.{ℕ, suc}
use lib.Dec.{eqb, leb}
use lib.ListN.{length}
use Rattle.text.specs.Text.{Text, every, between}
use Rattle.std.proofs.lemmas.Bool.{or_right}
use Rattle.text.proofs.Laws.Tests.{and-true-left, and-true-right}
use Rattle.sheet.specs.Rows.{Sheet}
use Rattle.sheet.specs.Form.{words}
use Rattle.sheet.specs.Lengths.{Lengths, lengths_of, good_lengths, tape_lengths}
use Rattle.xsd_types.specs.Types.{Schema}
use Rattle.xsd_types.specs.State.{State}
use Rattle.xsd_parser.specs.Tape.{Judged, event, refused, records}
use Rattle.xsd_parser.specs.Step.{step}
use Rattle.xsd_parser.specs.Read.{ReadAnswer, read_records, read_state}
use Rattle.xsd_parser.proofs.Laws.Outcomes.{outcome-cases}
use Rattle.xsd_parser.proofs.Laws.Reads.{read_ok, read-refuse}
use Rattle.ir_types.specs.Types.{TypeGraph}
use Rattle.ir_types.specs.Sheet.{graph_fits}
use Rattle.ir_lower.specs.Lower.{lower, unknown_row}
use Rattle.ir_lower.specs.Repeated.{repeated_row}
use Rattle.ir_lower.specs.Call.{Lowered, zeros, unchanged, cleared, graph_written, repeated_or_written, refused_or_written, lower_finished, lower_state, scratch_least}
use Rattle.runs.specs.Runs.{Call, Answered, RunHolds, hold, sheet_held, AfterCall, refused_with, held_after, read_held, lower_held, Ran, answered_first, run_calls, run}
use Rattle.runs.specs.Trace.{Trace}
use Rattle.runs.specs.Notes.{AlikeRecords, AlikeCalls, meets, answered_number, meets_none, AlikeAnswers, AlikeRuns, sheets_after, sheets_of, sheets_made}
use Rattle.runs.proofs.Handled.{step-alike}
use Rattle.runs.proofs.Served.{Served, served-sheet, read-served}
use Rattle.runs.proofs.Runs.{hold-served, runs}

-- ---- a reading
not-met : (n : ℕ) → between 3 5 n ≡ true → not (meets n) ≡ true → ⊥
unfolding meets
not-met n b m = false≢true (sym (ap not (or_right (eqb n 1) _ b)) ∙ m)

records-alike : (lent : Lengths) (n : ℕ) (s : State) (js js' : List Judged) → AlikeRecords js js' → not (meets (read_records lent n s js).answer.number) ≡ true
    → read_records lent n s js ≡ read_records lent n s js'
unfolding read_records
records-alike lent n s [] [] AlikeRecords.end m = refl
records-alike lent n s [] (_ ∷ js') w m = elim w [ ]
records-alike lent n s (event e ∷ js) [] w m = elim w [ ]
records-alike lent n s (event e ∷ js) (refused r' ∷ js') w m = elim w [ ]
records-alike lent n s (refused r ∷ js) [] w m = elim w [ ]
records-alike lent n s (refused r ∷ js) (event e' ∷ js') w m = elim w [ ]
records-alike lent n s (event e ∷ js) (event e' ∷ js') (AlikeRecords.alike h w) m =
    outcome-cases (step lent s e)
    (λ x q. read_ok lent n s x e js q ∙ records-alike lent (suc n) x js js' w (rw (read_ok lent n s x e js q) at m) ∙ sym (read_ok lent n s x e' js' (sym (step-alike lent s h) ∙ q)))
    (λ r q. read-refuse lent n s e js r q ∙ sym (read-refuse lent n s e' js' r (sym (step-alike lent s h) ∙ q)))
records-alike lent n s (refused r ∷ js) (refused r' ∷ js') (AlikeRecords.bad b b') m = absurd (not-met r b m)

-- ---- a reading on what is held
one-met : not (meets 1) ≡ true → ⊥
unfolding meets
one-met m = false≢true m

held-alike : (h : RunHolds) (text text' : Text) (marks marks' : List ℕ) → AlikeRecords (records text marks) (records text' marks')
    → not (meets (read_held h text marks).answer.number) ≡ true → not (meets (read_held h text' marks').answer.number) ≡ true
    → read_held h text marks ≡ read_held h text' marks'
unfolding read_held read_state held_after refused_with
held-alike (RunHolds.bad_lengths x) text text' marks marks' w m m' = refl
held-alike (RunHolds.not_good x) text text' marks marks' w m m' = lengths (tape_lengths (length text) (length marks)) (tape_lengths (length text') (length marks')) m m'
  where
    lengths : (a b : Bool) → not (meets (if a then 2 else 1)) ≡ true → not (meets (if b then 2 else 1)) ≡ true
        → refused_with (if a then 2 else 1) (RunHolds.not_good x) ≡ refused_with (if b then 2 else 1) (RunHolds.not_good x)
    lengths true true k k' = refl
    lengths false b k k' = absurd (one-met k)
    lengths true false k k' = absurd (one-met k')
held-alike (RunHolds.holding lent s) text text' marks marks' w m m' =
    lengths (tape_lengths (length text) (length marks)) (tape_lengths (length text') (length marks')) m m'
    (λ k. ap (held_after lent s) (records-alike lent 0 s (records text marks) (records text' marks') w k))
  where
    lengths : {p q : AfterCall} (a b : Bool) → not (meets (if a then p else refused_with 1 (RunHolds.holding lent s)).answer.number) ≡ true
        → not (meets (if b then q else refused_with 1 (RunHolds.holding lent s)).answer.number) ≡ true → (not (meets p.answer.number) ≡ true → p ≡ q)
        → (if a then p else refused_with 1 (RunHolds.holding lent s)) ≡ (if b then q else refused_with 1 (RunHolds.holding lent s))
    lengths true true k k' f = f k
    lengths false b k k' f = absurd (one-met k)
    lengths true false k k' f = absurd (one-met k')

-- ---- a lowering on what is held
record Like (l l' : Lowered) : Type 0 where
  pub answer : l.answer ≡ l'.answer
  pub graph : eqb l.answer.number 2 || eqb l.answer.number 14 ≡ false → l.graph ≡ l'.graph

module _ (graph graph' : Sheet) (scratch scratch' : List ℕ) (e : lengths_of graph ≡ lengths_of graph') (f : length scratch ≡ length scratch') where
  rows_alike : length graph.rows ≡ length graph'.rows
  unfolding lengths_of
  rows_alike = ap (λ (l : Lengths). l.rows) e

  names-alike : length graph.names ≡ length graph'.names
  unfolding lengths_of
  names-alike = ap (λ (l : Lengths). l.names) e

  cleared-like : (r place : ℕ) → Like (cleared r place graph scratch) (cleared r place graph' scratch')
  unfolding cleared zeros
  cleared-like r place = record { answer = refl; graph = λ k. rw (rows_alike, names-alike) }

  if-like : (b : Bool) {l l' m m' : Lowered} → Like l l' → Like m m' → Like (if b then l else m) (if b then l' else m')
  if-like true x y = x
  if-like false x y = y

  written-like : (g : TypeGraph) → Like (graph_written g graph scratch) (graph_written g graph' scratch')
  unfolding graph_written
  written-like g = rw (← rows_alike, ← names-alike) (if-like (graph_fits (length graph.rows) (length graph.names) g) (record { answer = refl; graph = λ k. refl }) (cleared-like 15 0))

  repeated-like : (o : Option ℕ) (g : TypeGraph) → Like (repeated_or_written o g graph scratch) (repeated_or_written o g graph' scratch')
  repeated-like none g = written-like g
  repeated-like (some row) g = cleared-like 20 row

  refused-like : (s : Schema) (o : Option TypeGraph) → Like (refused_or_written s o graph scratch) (refused_or_written s o graph' scratch')
  refused-like s none = cleared-like 13 (unknown_row 2 s.items)
  refused-like s (some g) = repeated-like (repeated_row s) g

  short-like : Like (unchanged 14 graph scratch) (unchanged 14 graph' scratch')
  unfolding unchanged
  short-like = record { answer = refl; graph = λ k. absurd (false≢true (sym k)) }

  bad-like : Like (unchanged 2 graph scratch) (unchanged 2 graph' scratch')
  unfolding unchanged
  bad-like = record { answer = refl; graph = λ k. absurd (false≢true (sym k)) }

  state-like : (s : State) → Like (lower_state s graph scratch) (lower_state s graph' scratch')
  unfolding lower_state lower_finished
  state-like s = rw (← f) (if-like (leb scratch_least (length scratch))
      (if-like s.reader.root_seen (refused-like s.reader.schema (lower s.reader.schema)) (cleared-like 12 0)) short-like)

  good-like : (b : Bool) {l l' : Lowered} → Like l l' → not (meets (if b then l else unchanged 1 graph scratch).answer.number) ≡ true
      → Like (if b then l else unchanged 1 graph scratch) (if b then l' else unchanged 1 graph' scratch')
  unfolding unchanged
  good-like true w m = w
  good-like false w m = absurd (one-met m)

  lower-like : (h : RunHolds) → not (meets (lower_held h graph scratch).answer.number) ≡ true → Like (lower_held h graph scratch) (lower_held h graph' scratch')
  unfolding lower_held unchanged
  lower-like (RunHolds.bad_lengths x) m = absurd (one-met m)
  lower-like (RunHolds.not_good x) m = rw (← e) (good-like (good_lengths (lengths_of graph)) bad-like m)
  lower-like (RunHolds.holding lent s) m = rw (← e) (good-like (good_lengths (lengths_of graph)) (state-like s) m)

-- ---- the runs
calls-alike : {cs cs' : List Call} (h : RunHolds) → AlikeCalls cs cs' → meets_none (run_calls cs h).answers ≡ true → meets_none (run_calls cs' h).answers ≡ true
    → AlikeRuns (run_calls cs h) (run_calls cs' h) (sheets_after cs h) (sheets_after cs' h)
unfolding run_calls meets_none every answered_number answered_first sheets_after
calls-alike h AlikeCalls.end m m' = record { answers = AlikeAnswers.end; last = refl; between = refl }
calls-alike h (AlikeCalls.read {text} {text'} {marks} {marks'} {cs} {cs'} w on) m m' =
    let e = held-alike h text text' marks marks' w (and-true-left _ _ m) (and-true-left _ _ m') in
    let rest = calls-alike (read_held h text marks).held on (and-true-right (not (meets (read_held h text marks).answer.number)) _ m)
    (rw (← e) at (and-true-right (not (meets (read_held h text' marks').answer.number)) _ m')) in
    rw (← e) (record { answers = AlikeAnswers.read rest.answers; last = rest.last; between = ap (λ (xs : List Sheet). sheet_held (read_held h text marks).held ∷ xs) rest.between })
calls-alike h (AlikeCalls.lower {graph} {graph'} {scratch} {scratch'} {cs} {cs'} e f on) m m' =
    let l = lower-like graph graph' scratch scratch' e f h (and-true-left _ _ m) in
    let rest = calls-alike h on (and-true-right (not (meets (lower_held h graph scratch).answer.number)) _ m) (and-true-right (not (meets (lower_held h graph' scratch').answer.number)) _ m') in
    record { answers = AlikeAnswers.lower l.answer l.graph rest.answers; last = rest.last; between = ap (λ (xs : List Sheet). sheet_held h ∷ xs) rest.between }

pub notes-nothing : {cs cs' : List Call} (x : Sheet) → AlikeCalls cs cs' → meets_none (run x cs).answers ≡ true → meets_none (run x cs').answers ≡ true
    → AlikeRuns (run x cs) (run x cs') (sheets_of x cs) (sheets_of x cs')
unfolding run sheets_of
notes-nothing x w m m' = calls-alike (hold x) w m m'

-- ---- the calls made: the sheet after each is that of the definition
sheets-made : {x x' : Sheet} {h : RunHolds} {calls : List Call} {answers : List Answered} → Served x h → (t : Trace x calls answers x') → sheets_made t ≡ sheets_after calls h
unfolding sheets_made sheets_after
sheets-made v Trace.done = refl
sheets-made {h = h} v (Trace.read_next {text = text} {marks = marks} is t) =
    let k = read-served text marks v in
    let same-sheet = ap (λ (a : ReadAnswer). a.sheet) (is ∙ k.answers) in
    let serves = rw (sym same-sheet) at k.serves in
    ap₂ (λ (y : Sheet) (ys : List Sheet). y ∷ ys) (sym (served-sheet serves)) (sheets-made serves t)
sheets-made {h = h} v (Trace.lower_next is t) = ap₂ (λ (y : Sheet) (ys : List Sheet). y ∷ ys) (sym (served-sheet v)) (sheets-made v t)

pub notes-made : {x x₁ x₂ : Sheet} {cs cs' : List Call} {answers₁ answers₂ : List Answered} → words x.rows ≡ true → AlikeCalls cs cs'
    → (t₁ : Trace x cs answers₁ x₁) (t₂ : Trace x cs' answers₂ x₂) → meets_none answers₁ ≡ true → meets_none answers₂ ≡ true
    → AlikeRuns (record { answers = answers₁; last = x₁ }) (record { answers = answers₂; last = x₂ }) (sheets_made t₁) (sheets_made t₂)
unfolding sheets_of
notes-made {x} w alike t₁ t₂ m m' =
    let e₁ = runs w t₁ in
    let e₂ = runs w t₂ in
    let v = hold-served x w in
    let numbers : Ran → Bool = λ (r : Ran). meets_none r.answers in
    rw (e₁, e₂, sheets-made v t₁, sheets-made v t₂) (notes-nothing x alike (sym (ap numbers e₁) ∙ m) (sym (ap numbers e₂) ∙ m'))
