-- Events joined: the state held after the calls is the first one after the records judged, one after the other. A reading's state is the one after the records
-- that it judged, and other calls keep the state. Assumes nothing.
use Prim.Native.Nat.{ℕ, suc, ◌+◌}
use mathlib.Core.Path.{◌≡◌, refl, ap, ◌∙◌}
use mathlib.Core.Bool.{true}
use mathlib.Core.List.{List, [], ◌∷◌, ◌++◌}
use native.Mathlib.Omega.{arith}
use lib.ListN.{length, take}
use Rattle.text.specs.Text.{Text}
use Rattle.text.proofs.Laws.Tests.{bool_cases}
use Rattle.sheet.specs.Rows.{Sheet}
use Rattle.sheet.specs.Form.{words}
use Rattle.sheet.specs.Lengths.{tape_lengths, Lengths, lengths_of, good_lengths}
use Rattle.xsd_types.specs.State.{State}
use Rattle.xsd_types.specs.Count.{sheet_of, good, state_of}
use Rattle.xsd_parser.specs.Event.{Event}
use Rattle.xsd_parser.specs.Tape.{Judged, event, refused, records}
use Rattle.xsd_parser.specs.Handlers.{ok, refuse}
use Rattle.xsd_parser.specs.Step.{step}
use Rattle.xsd_parser.specs.Read.{read_records, read_state}
use Rattle.xsd_parser.proofs.Laws.Outcomes.{outcome-cases}
use Rattle.xsd_parser.proofs.Laws.Reads.{read_ok, read-refuse}
use Rattle.xsd_parser.proofs.Laws.Accepts.{read_records-later}
use Rattle.runs.specs.Runs.{Call, Answered, Ran, run, RunHolds, hold, sheet_held, run_calls, answered_first, read_held, held_after, refused_with}
use Rattle.runs.specs.Joined.{judged_in, judged_held, joined_from, joined, after_record, after_records}
use Rattle.runs.specs.Trace.{Trace}
use Rattle.runs.proofs.Runs.{runs}

-- one record behind another, and records behind records
pub after_records-append : (lent : Lengths) (s : State) (js ks : List Judged) → after_records lent s (js ++ ks) ≡ after_records lent (after_records lent s js) ks
unfolding after_records
after_records-append lent s [] ks = refl
after_records-append lent s (j ∷ js) ks = after_records-append lent (after_record lent s j) js ks

pub after_record-ok : (lent : Lengths) (s s' : State) (e : Event) → step lent s e ≡ ok s' → after_record lent s (event e) ≡ s'
unfolding after_record
after_record-ok lent s s' e q = rw (q, after_record)

pub after_record-refuse : (lent : Lengths) (s : State) (e : Event) (k : ℕ) → step lent s e ≡ refuse k → after_record lent s (event e) ≡ s
unfolding after_record
after_record-refuse lent s e k q = rw (q, after_record)

-- the state that a reading reaches is the one after the records that it judged
abbrev AfterJudged : Lengths → State → List Judged → Type 0
AfterJudged lent s js = after_records lent s (take (suc (read_records lent 0 s js).answer.place) js) ≡ (read_records lent 0 s js).state

judged-ok : (lent : Lengths) (s x : State) (e : Event) (js : List Judged) → step lent s e ≡ ok x → AfterJudged lent x js → AfterJudged lent s (event e ∷ js)
unfolding after_records
judged-ok lent s x e js q h =
    let n = (read_records lent 0 x js).answer.place in
    let k : 1 + n ≡ suc n = omega arith in
    rw (read_ok lent 0 s x e js q ∙ read_records-later lent 1 0 x js, k)
    (ap (λ (y : State). after_records lent y (take (suc n) js)) (after_record-ok lent s x e q) ∙ h)

judged-refuse : (lent : Lengths) (s : State) (e : Event) (js : List Judged) (k : ℕ) → step lent s e ≡ refuse k → AfterJudged lent s (event e ∷ js)
unfolding after_records
judged-refuse lent s e js k q = rw (read-refuse lent 0 s e js k q, after_record-refuse lent s e k q)

after-judged : (lent : Lengths) (s : State) (js : List Judged) → AfterJudged lent s js
unfolding read_records after_records after_record
after-judged lent s [] = refl
after-judged lent s (refused r ∷ js) = refl
after-judged lent s (event e ∷ js) =
    outcome-cases (step lent s e) (λ x q. judged-ok lent s x e js q (after-judged lent x js)) (λ k q. judged-refuse lent s e js k q)

pub read_state-judged : (lent : Lengths) (s : State) (text : Text) (marks : List ℕ) → after_records lent s (judged_in lent s text marks) ≡ (read_state lent s text marks).state
unfolding judged_in read_state
read_state-judged lent s text marks = after-judged lent s (records text marks)

-- the last sheet of a run from a state
abbrev LastJoined : List Call → Lengths → State → Type 0
LastJoined calls lent s = (run_calls calls (RunHolds.holding lent s)).last ≡ sheet_of (after_records lent s (joined_from calls (RunHolds.holding lent s))) lent.rows lent.names

last-read : (text : Text) (marks : List ℕ) (calls : List Call) (lent : Lengths) (s : State) → ((s' : State) → LastJoined calls lent s') → LastJoined (Call.reading text marks ∷ calls) lent s
unfolding run_calls answered_first joined_from judged_held read_held held_after refused_with
last-read text marks calls lent s ih =
    bool_cases (tape_lengths (length text) (length marks))
    (λ t. rw (t, after_records-append lent s (judged_in lent s text marks), read_state-judged lent s text marks) (ih (read_state lent s text marks).state))
    (λ t. rw t (ih s))

pub last-joined-from : (calls : List Call) (lent : Lengths) (s : State) → LastJoined calls lent s
unfolding run_calls answered_first joined_from after_records sheet_held
last-joined-from [] lent s = refl
last-joined-from (Call.reading text marks ∷ calls) lent s = last-read text marks calls lent s (λ s'. last-joined-from calls lent s')
last-joined-from (Call.lowering graph scratch ∷ calls) lent s = last-joined-from calls lent s

-- what a run holds of a good sheet with good lengths
pub hold-good : (x : Sheet) → good_lengths (lengths_of x) ≡ true → good x ≡ true → hold x ≡ RunHolds.holding (lengths_of x) (state_of x)
unfolding hold
hold-good x l g = rw (l, g)

pub last-joined : (x : Sheet) (calls : List Call) → good_lengths (lengths_of x) ≡ true → good x ≡ true
    → (run x calls).last ≡ sheet_of (after_records (lengths_of x) (state_of x) (joined x calls)) (length x.rows) (length x.names)
unfolding run joined lengths_of
last-joined x calls l g = rw (hold-good x l g) (last-joined-from calls (lengths_of x) (state_of x))

pub made-joined : {x x' : Sheet} {calls : List Call} {answers : List Answered} → words x.rows ≡ true → good_lengths (lengths_of x) ≡ true → good x ≡ true
    → Trace x calls answers x' → x' ≡ sheet_of (after_records (lengths_of x) (state_of x) (joined x calls)) (length x.rows) (length x.names)
made-joined {x} {calls = calls} w l g t = ap (λ (r : Ran). r.last) (runs w t) ∙ last-joined x calls l g
