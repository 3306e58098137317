-- Calls that do jobs, each tape in pieces, end as the jobs do: a piece behind an accepted one is read from the state reached and the places add up, what stands
-- behind a refused one is dropped by the tape whole too, and calls that pass by keep what is held. Assumes nothing.
--     ran_on front r    the run r with these answers in front
use Prim.Native.Nat.{ℕ, suc, ◌+◌, ◌≤◌}
use mathlib.Core.Path.{◌≡◌, refl, sym, ap, ◌∙◌}
use mathlib.Core.Bool.{true, false, not}
use mathlib.Core.List.{List, [], ◌∷◌, ◌++◌, append_assoc, append-nil}
use mathlib.Core.Option.{none}
use native.Mathlib.Omega.{arith}
use lib.ListN.{length}
use lib.Seq.{take_all, take-append-add, take-append-le}
use borrow.Author.Tests.{not-true}
use Rattle.text.specs.Text.{Text, every, between}
use Rattle.std.proofs.lemmas.Bool.{and_parts}
use Rattle.sheet.specs.Rows.{Sheet}
use Rattle.sheet.specs.Form.{words}
use Rattle.sheet.specs.Lengths.{tape_lengths, Lengths, lengths_of, good_lengths}
use Rattle.xsd_types.specs.State.{State}
use Rattle.xsd_types.specs.Count.{good, state_of}
use Rattle.xsd_parser.specs.Tape.{Judged, records}
use Rattle.xsd_parser.specs.Read.{Reading, read_state}
use Rattle.xsd_parser.specs.Whole.{whole_records}
use Rattle.xsd_parser.proofs.Laws.Reads.{read_state-place, refused-place}
use Rattle.xsd_parser.proofs.Laws.Accepts.{accepted-events}
use Rattle.xsd_parser.proofs.Laws.Cut.{cut-records, cut-accepted, zero-accepted, accepted-place}
use Rattle.xsd_parser.proofs.Laws.CutRefused.{cut-refused, whole-records}
use Rattle.runs.specs.Runs.{Call, Answered, number_in_run, RunHolds, sheet_held, AfterCall, refused_with, held_after, read_held, Ran, answered_first, run_calls, run}
use Rattle.runs.specs.Joined.{judged_in, judged_held, joined_from, joined}
use Rattle.runs.specs.Cuts.{Job, ended_first, tape_answer, jobs_done, jobs_judged, passes_by, held_behind, Pieces, CutInto, is_lowered, PassedBy, PiecesAnswer, Gathered, CutAlike}
use Rattle.runs.specs.Trace.{Trace}
use Rattle.runs.proofs.Joined.{hold-good}
use Rattle.runs.proofs.Runs.{runs}

abbrev ran_on : List Answered → Ran → Ran
ran_on front r = record { answers = front ++ r.answers; last = r.last }

-- ---- calls behind calls

pub run_calls-append : (a b : List Call) (h : RunHolds) → run_calls (a ++ b) h ≡ ran_on (run_calls a h).answers (run_calls b (held_behind a h))
unfolding run_calls answered_first held_behind
run_calls-append [] b h = refl
run_calls-append (Call.reading text marks ∷ a) b h =
    let st = read_held h text marks in
    ap (answered_first (Answered.read_as st.answer st.in_run)) (run_calls-append a b st.held)
run_calls-append (Call.lowering graph scratch ∷ a) b h = ap (answered_first _) (run_calls-append a b h)

held_behind-append : (a b : List Call) (h : RunHolds) → held_behind (a ++ b) h ≡ held_behind b (held_behind a h)
unfolding held_behind
held_behind-append [] b h = refl
held_behind-append (Call.reading text marks ∷ a) b h = held_behind-append a b (read_held h text marks).held
held_behind-append (Call.lowering graph scratch ∷ a) b h = held_behind-append a b h

joined_from-append : (a b : List Call) (h : RunHolds) → joined_from (a ++ b) h ≡ joined_from a h ++ joined_from b (held_behind a h)
unfolding joined_from held_behind
joined_from-append [] b h = refl
joined_from-append (Call.reading text marks ∷ a) b h =
    ap (λ (js : List Judged). judged_held h text marks ++ js) (joined_from-append a b (read_held h text marks).held) ∙ sym (append_assoc (judged_held h text marks) _ _)
joined_from-append (Call.lowering graph scratch ∷ a) b h = joined_from-append a b h

-- ---- one reading on a state

pub read_held_lem : (lent : Lengths) (s : State) (text : Text) (marks : List ℕ) → tape_lengths (length text) (length marks) ≡ true
    → read_held (RunHolds.holding lent s) text marks ≡ held_after lent s (read_state lent s text marks)
unfolding read_held
read_held_lem lent s text marks t = rw t

pub read-long : (lent : Lengths) (s : State) (text : Text) (marks : List ℕ) → tape_lengths (length text) (length marks) ≡ false
    → read_held (RunHolds.holding lent s) text marks ≡ refused_with 1 (RunHolds.holding lent s)
unfolding read_held
read-long lent s text marks t = rw t

-- ---- calls that pass by

passing-held : (lent : Lengths) (s : State) (calls : List Call) → every passes_by calls ≡ true → held_behind calls (RunHolds.holding lent s) ≡ RunHolds.holding lent s
unfolding every passes_by held_behind refused_with
passing-held lent s [] e = refl
passing-held lent s (Call.reading text marks ∷ calls) e =
    let both = and_parts (not (tape_lengths (length text) (length marks))) (every passes_by calls) e in
    rw (read-long lent s text marks (not-true (tape_lengths (length text) (length marks)) both.0)) (passing-held lent s calls both.1)
passing-held lent s (Call.lowering graph scratch ∷ calls) e = passing-held lent s calls e

passing-answers : (lent : Lengths) (s : State) (calls : List Call) → every passes_by calls ≡ true → PassedBy (run_calls calls (RunHolds.holding lent s)).answers
unfolding every passes_by is_lowered run_calls answered_first refused_with
passing-answers lent s [] e = PassedBy.none
passing-answers lent s (Call.reading text marks ∷ calls) e =
    let both = and_parts (not (tape_lengths (length text) (length marks))) (every passes_by calls) e in
    rw (read-long lent s text marks (not-true (tape_lengths (length text) (length marks)) both.0)) (PassedBy.too_long (passing-answers lent s calls both.1))
passing-answers lent s (Call.lowering graph scratch ∷ calls) e = PassedBy.lowering refl (passing-answers lent s calls e)

passing-joined : (lent : Lengths) (s : State) (calls : List Call) → every passes_by calls ≡ true → joined_from calls (RunHolds.holding lent s) ≡ []
unfolding every passes_by joined_from judged_held refused_with
passing-joined lent s [] e = refl
passing-joined lent s (Call.reading text marks ∷ calls) e =
    let both = and_parts (not (tape_lengths (length text) (length marks))) (every passes_by calls) e in
    let long : tape_lengths (length text) (length marks) ≡ false = not-true (tape_lengths (length text) (length marks)) both.0 in
    rw (read-long lent s text marks long, long) (passing-joined lent s calls both.1)
passing-joined lent s (Call.lowering graph scratch ∷ calls) e = passing-joined lent s calls e

-- ---- one reading on a state that takes its marks

held_behind-read : (lent : Lengths) (s : State) (text : Text) (marks : List ℕ) (calls : List Call) → tape_lengths (length text) (length marks) ≡ true
    → held_behind (Call.reading text marks ∷ calls) (RunHolds.holding lent s) ≡ held_behind calls (RunHolds.holding lent (read_state lent s text marks).state)
unfolding held_behind held_after
held_behind-read lent s text marks calls t = ap (λ (st : AfterCall). held_behind calls st.held) (read_held_lem lent s text marks t)

joined_from-read : (lent : Lengths) (s : State) (text : Text) (marks : List ℕ) (calls : List Call) → tape_lengths (length text) (length marks) ≡ true
    → joined_from (Call.reading text marks ∷ calls) (RunHolds.holding lent s) ≡ judged_in lent s text marks ++ joined_from calls (RunHolds.holding lent (read_state lent s text marks).state)
unfolding joined_from judged_held held_after
joined_from-read lent s text marks calls t = rw (read_held_lem lent s text marks t, t)

-- what the calls of a tape leave: the answers, what is held, the records judged
pub record Leaves (lent : Lengths) (text : Text) (s : State) (marks : List ℕ) (calls : List Call) (r : Reading) : Type 0 where
  pub answers : PiecesAnswer r.answer.number (number_in_run s.events r.answer) r.answer.place (run_calls calls (RunHolds.holding lent s)).answers
  pub held : held_behind calls (RunHolds.holding lent s) ≡ RunHolds.holding lent r.state
  pub events : joined_from calls (RunHolds.holding lent s) ≡ judged_in lent s text marks

one-leaves : (lent : Lengths) (text : Text) (s : State) (marks : List ℕ) → tape_lengths (length text) (length marks) ≡ true
    → Leaves lent text s marks (Call.reading text marks ∷ []) (read_state lent s text marks)
unfolding run_calls answered_first held_behind held_after joined_from
one-leaves lent text s marks t =
    record {
      answers = rw (read_held_lem lent s text marks t) PiecesAnswer.last;
      held = held_behind-read lent s text marks [] t;
      events = joined_from-read lent s text marks [] t ∙ append-nil (judged_in lent s text marks);
    }

-- ---- a piece that is accepted, and the rest

module _ (lent : Lengths) (text : Text) (s : State) (m₁ m₂ : List ℕ) (z : (read_state lent s text m₁).answer.number ≡ 0) where
  abbrev pub r₁ : Reading
  r₁ = read_state lent s text m₁

  abbrev pub r₂ : Reading
  r₂ = read_state lent r₁.state text m₂

  place-first : r₁.answer.place ≡ length (records text m₁)
  place-first = accepted-place lent s _ text m₁ (zero-accepted lent s text m₁ z)

  judged-first : judged_in lent s text m₁ ≡ records text m₁
  unfolding judged_in
  judged-first = take_all (suc r₁.answer.place) (records text m₁) (omega (arith, place-first))

  judged-cut : judged_in lent s text (m₁ ++ m₂) ≡ judged_in lent s text m₁ ++ judged_in lent r₁.state text m₂
  unfolding judged_in
  judged-cut =
      let n = r₂.answer.place in
      let k : suc (r₁.answer.place + n) ≡ length (records text m₁) + suc n = omega (arith, place-first) in
      rw (judged-first, cut-records text m₁ m₂ (accepted-events (zero-accepted lent s text m₁ z)), cut-accepted lent s text m₁ m₂ z, k)
      (take-append-add (records text m₁) (records text m₂) (suc n))

  pub number_same : number_in_run s.events (record { number = r₂.answer.number; place = r₁.answer.place + r₂.answer.place }) ≡ number_in_run r₁.state.events r₂.answer
  unfolding number_in_run
  number_same =
      let k : s.events + (r₁.answer.place + r₂.answer.place) ≡ r₁.state.events + r₂.answer.place = omega (arith, read_state-place lent s text m₁) in
      rw k

  module _ (t : tape_lengths (length text) (length m₁) ≡ true) where
    pub first-held : read_held (RunHolds.holding lent s) text m₁ ≡ record { answer = record { number = 0; place = r₁.answer.place }; in_run = none; held = RunHolds.holding lent r₁.state }
    unfolding held_after number_in_run between
    first-held =
        read_held_lem lent s text m₁ t
        ∙ ap (λ (n : ℕ). held_after lent s (record { answer = record { number = n; place = r₁.answer.place }; state = r₁.state })) z

    module _ (between calls : List Call) (o : every passes_by between ≡ true) where
      passed-held : held_behind (between ++ calls) (RunHolds.holding lent r₁.state) ≡ held_behind calls (RunHolds.holding lent r₁.state)
      passed-held = held_behind-append between calls (RunHolds.holding lent r₁.state) ∙ rw (passing-held lent r₁.state between o)

      pub passed-ran : (run_calls (between ++ calls) (RunHolds.holding lent r₁.state)).answers
          ≡ (run_calls between (RunHolds.holding lent r₁.state)).answers ++ (run_calls calls (RunHolds.holding lent r₁.state)).answers
      passed-ran =
          ap (λ (r : Ran). r.answers) (run_calls-append between calls (RunHolds.holding lent r₁.state))
          ∙ rw (passing-held lent r₁.state between o)

      passed-joined : joined_from (between ++ calls) (RunHolds.holding lent r₁.state) ≡ joined_from calls (RunHolds.holding lent r₁.state)
      passed-joined =
          joined_from-append between calls (RunHolds.holding lent r₁.state)
          ∙ rw (passing-joined lent r₁.state between o, passing-held lent r₁.state between o)

      next-answers : PiecesAnswer r₂.answer.number (number_in_run r₁.state.events r₂.answer) r₂.answer.place (run_calls calls (RunHolds.holding lent r₁.state)).answers
          → PiecesAnswer r₂.answer.number (number_in_run r₁.state.events r₂.answer) (r₁.answer.place + r₂.answer.place)
          (run_calls (Call.reading text m₁ ∷ (between ++ calls)) (RunHolds.holding lent s)).answers
      unfolding run_calls answered_first
      next-answers a = rw (first-held, passed-ran) (PiecesAnswer.onward _ _ _ _ (passing-answers lent r₁.state between o) a)

      next-leaves : Leaves lent text r₁.state m₂ calls r₂ → Leaves lent text s (m₁ ++ m₂) (Call.reading text m₁ ∷ (between ++ calls)) (read_state lent s text (m₁ ++ m₂))
      next-leaves rest =
          record {
            answers = rw (cut-accepted lent s text m₁ m₂ z, number_same) (next-answers rest.answers);
            held = rw (cut-accepted lent s text m₁ m₂ z) (held_behind-read lent s text m₁ (between ++ calls) t ∙ passed-held ∙ rest.held);
            events = joined_from-read lent s text m₁ (between ++ calls) t ∙ rw (passed-joined, rest.events, judged-cut);
          }

-- ---- a piece that is refused

judged-dropped : (lent : Lengths) (s : State) (text : Text) (m₁ m₂ : List ℕ) → whole_records text m₁ ≡ true → ((read_state lent s text m₁).answer.number ≡ 0 → ⊥)
    → judged_in lent s text (m₁ ++ m₂) ≡ judged_in lent s text m₁
unfolding judged_in read_state
judged-dropped lent s text m₁ m₂ w r =
    let front = whole-records text m₁ m₂ w in
    let k : suc (read_state lent s text m₁).answer.place ≤ length (records text m₁) = omega (arith, refused-place lent 0 s (records text m₁) r) in
    rw (cut-refused lent s text m₁ m₂ r (λ n. w), front.1) (take-append-le (suc (read_state lent s text m₁).answer.place) (records text m₁) front.0 k)

pub pieces-leave : {lent : Lengths} {text : Text} {s : State} {marks : List ℕ} {calls : List Call} → Pieces lent text s marks calls → Leaves lent text s marks calls (read_state lent s text marks)
pieces-leave {lent} {text} {s} (Pieces.last {marks = marks} t) = one-leaves lent text s marks t
pieces-leave {lent} {text} {s} (Pieces.onward m₁ m₂ ls calls t z o p) = next-leaves lent text s m₁ m₂ z t ls calls o (pieces-leave p)
pieces-leave {lent} {text} {s} (Pieces.dropped m₁ m₂ t w r) =
    let one = one-leaves lent text s m₁ t in
    rw (cut-refused lent s text m₁ m₂ r (λ n. w)) (record { answers = one.answers; held = one.held; events = one.events ∙ sym (judged-dropped lent s text m₁ m₂ w r) })

-- ---- the calls

record Ends (lent : Lengths) (s : State) (jobs : List Job) (calls : List Call) : Type 0 where
  answers : Gathered (jobs_done lent s jobs).answers (run_calls calls (RunHolds.holding lent s)).answers
  last : (run_calls calls (RunHolds.holding lent s)).last ≡ sheet_held (RunHolds.holding lent (jobs_done lent s jobs).state)
  events : joined_from calls (RunHolds.holding lent s) ≡ jobs_judged lent s jobs

cut-ends : {lent : Lengths} {s : State} {jobs : List Job} {calls : List Call} → CutInto lent s jobs calls → Ends lent s jobs calls
unfolding jobs_done ended_first tape_answer jobs_judged run_calls answered_first joined_from is_lowered refused_with judged_held
cut-ends CutInto.done = record { answers = Gathered.done; last = refl; events = refl }
cut-ends {lent} {s} (CutInto.tape ps calls p c) =
    let one = pieces-leave p in
    let rest = cut-ends c in
    record {
      answers = rw (run_calls-append ps calls (RunHolds.holding lent s), one.held) (Gathered.tape _ _ one.answers rest.answers);
      last = rw (run_calls-append ps calls (RunHolds.holding lent s), one.held) rest.last;
      events = rw (joined_from-append ps calls (RunHolds.holding lent s), one.held, one.events, rest.events);
    }
cut-ends (CutInto.lowering c) =
    let rest = cut-ends c in
    record { answers = Gathered.lowering refl rest.answers; last = rest.last; events = rest.events }
cut-ends {lent} {s} (CutInto.too_long {text = text} {marks = marks} t c) =
    let rest = cut-ends c in
    record {
      answers = rw (read-long lent s text marks t) (Gathered.too_long rest.answers);
      last = rw (read-long lent s text marks t) rest.last;
      events = rw (read-long lent s text marks t, t) rest.events;
    }

-- by the definition, and for the calls made
pub cut-run : (x : Sheet) (jobs : List Job) (calls : List Call) → good_lengths (lengths_of x) ≡ true → good x ≡ true → CutInto (lengths_of x) (state_of x) jobs calls
    → CutAlike (lengths_of x) (jobs_done (lengths_of x) (state_of x) jobs) (run x calls)
unfolding run sheet_held
cut-run x jobs calls l g c = let e = cut-ends c in rw (hold-good x l g) (record { answers = e.answers; sheet = e.last })

pub cut-made : {x x' : Sheet} {jobs : List Job} {calls : List Call} {answers : List Answered} → words x.rows ≡ true → good_lengths (lengths_of x) ≡ true → good x ≡ true
    → CutInto (lengths_of x) (state_of x) jobs calls → Trace x calls answers x' → CutAlike (lengths_of x) (jobs_done (lengths_of x) (state_of x) jobs) (record { answers = answers; last = x' })
cut-made {x} {jobs = jobs} {calls = calls} w l g c t = rw (runs w t) (cut-run x jobs calls l g c)

pub cut-joined : (x : Sheet) (jobs : List Job) (calls : List Call) → good_lengths (lengths_of x) ≡ true → good x ≡ true → CutInto (lengths_of x) (state_of x) jobs calls
    → joined x calls ≡ jobs_judged (lengths_of x) (state_of x) jobs
unfolding joined
cut-joined x jobs calls l g c = rw (hold-good x l g) (cut-ends c).events
