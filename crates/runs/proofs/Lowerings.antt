-- Named in docs/DESIGN-PASS.md: where only lowerings stand between the pieces of a tape, only the answers of lowerings stand between the pieces' answers. No
-- contract cites it, and no claim: `claim-cut` lets a reading that meets 1 stand there too. Assumes nothing.
--     LoweredPieces, LoweredCut    `Pieces` and `CutInto`, with lowerings alone between the pieces
--     LoweredAnswer, LoweredGathered, LoweredAlike    `PiecesAnswer`, `Gathered` and `CutAlike`, with the answers of lowerings alone between those of the pieces
use Prim.Native.Nat.{ℕ, ◌+◌}
use mathlib.Core.Path.{◌≡◌, refl}
use mathlib.Core.Bool.{Bool, true, false, false≢true}
use mathlib.Core.List.{List, [], ◌∷◌, ◌++◌}
use mathlib.Core.Option.{Option}
use lib.ListN.{length}
use Rattle.text.specs.Text.{Text, every}
use Rattle.sheet.specs.Rows.{Sheet}
use Rattle.sheet.specs.Form.{words}
use Rattle.sheet.specs.Lengths.{tape_lengths, Answer, Lengths, lengths_of, good_lengths}
use Rattle.sheet.specs.Returned.{accepted}
use Rattle.xsd_types.specs.State.{State}
use Rattle.xsd_types.specs.Count.{good, sheet_of, state_of}
use Rattle.xsd_parser.specs.Read.{read_state}
use Rattle.xsd_parser.specs.Whole.{whole_records}
use Rattle.xsd_parser.proofs.Laws.Cut.{cut-accepted}
use Rattle.xsd_parser.proofs.Laws.CutRefused.{cut-refused}
use Rattle.runs.specs.Runs.{Call, Answered, number_in_run, RunHolds, refused_with, held_after, Ran, answered_first, run_calls, run}
use Rattle.runs.specs.Joined.{joined_from}
use Rattle.runs.specs.Cuts.{Job, EndedJobs, ended_first, tape_answer, jobs_done, passes_by, held_behind, Pieces, CutInto, is_lowered, met_one}
use Rattle.runs.specs.Trace.{Trace}
use Rattle.runs.proofs.Joined.{hold-good}
use Rattle.runs.proofs.Runs.{runs}
use Rattle.runs.proofs.Cuts.{run_calls-append, read_held_lem, read-long, number_same, first-held, passed-ran, pieces-leave, cut-run}

unfoldable pub is_lowering : Call → Bool
is_lowering (Call.reading text marks) = false
is_lowering (Call.lowering graph scratch) = true

pub data LoweredPieces (lent : Lengths) (text : Text) : State → List ℕ → List Call → Type 0 where
  last : {s : State} {marks : List ℕ} → tape_lengths (length text) (length marks) ≡ true → LoweredPieces lent text s marks (Call.reading text marks ∷ [])
  onward : {s : State} (m₁ m₂ : List ℕ) (lowerings calls : List Call) → tape_lengths (length text) (length m₁) ≡ true → (read_state lent s text m₁).answer.number ≡ accepted
      → every is_lowering lowerings ≡ true → LoweredPieces lent text (read_state lent s text m₁).state m₂ calls
      → LoweredPieces lent text s (m₁ ++ m₂) (Call.reading text m₁ ∷ (lowerings ++ calls))
  dropped : {s : State} (m₁ m₂ : List ℕ) → tape_lengths (length text) (length m₁) ≡ true → whole_records text m₁ ≡ true → ((read_state lent s text m₁).answer.number ≡ accepted → ⊥)
      → LoweredPieces lent text s (m₁ ++ m₂) (Call.reading text m₁ ∷ [])

pub data LoweredCut (lent : Lengths) : State → List Job → List Call → Type 0 where
  done : {s : State} → LoweredCut lent s [] []
  tape : {s : State} {text : Text} {marks : List ℕ} {jobs : List Job} (pieces calls : List Call) → LoweredPieces lent text s marks pieces
      → LoweredCut lent (read_state lent s text marks).state jobs calls → LoweredCut lent s (Job.tape text marks ∷ jobs) (pieces ++ calls)
  lowering : {s : State} {graph : Sheet} {scratch : List ℕ} {jobs : List Job} {calls : List Call} → LoweredCut lent s jobs calls
      → LoweredCut lent s (Job.lowering graph scratch ∷ jobs) (Call.lowering graph scratch ∷ calls)
  too_long : {s : State} {text : Text} {marks : List ℕ} {jobs : List Job} {calls : List Call} → tape_lengths (length text) (length marks) ≡ false → LoweredCut lent s jobs calls
      → LoweredCut lent s jobs (Call.reading text marks ∷ calls)

pub data LoweredAnswer (number : ℕ) (in_run : Option ℕ) : ℕ → List Answered → Type 0 where
  last : {place : ℕ} → LoweredAnswer number in_run place (Answered.read_as (record { number = number; place = place }) in_run ∷ [])
  onward : (place₁ place₂ : ℕ) (lowered answers : List Answered) → every is_lowered lowered ≡ true → LoweredAnswer number in_run place₂ answers
      → LoweredAnswer number in_run (place₁ + place₂) (Answered.read_as (record { number = accepted; place = place₁ }) Option.none ∷ (lowered ++ answers))

pub data LoweredGathered : List Answered → List Answered → Type 0 where
  done : LoweredGathered [] []
  tape : {a : Answer} {in_run : Option ℕ} (pieces : List Answered) {jobs : List Answered} (calls : List Answered) → LoweredAnswer a.number in_run a.place pieces
      → LoweredGathered jobs calls → LoweredGathered (Answered.read_as a in_run ∷ jobs) (pieces ++ calls)
  lowering : {a : Answered} {jobs calls : List Answered} → is_lowered a ≡ true → LoweredGathered jobs calls → LoweredGathered (a ∷ jobs) (a ∷ calls)
  too_long : {jobs calls : List Answered} → LoweredGathered jobs calls → LoweredGathered jobs (met_one ∷ calls)

pub record LoweredAlike (lent : Lengths) (jobs : EndedJobs) (calls : Ran) : Type 0 where
  pub answers : LoweredGathered jobs.answers calls.answers
  pub sheet : calls.last ≡ sheet_of jobs.state lent.rows lent.names

-- ---- lowerings

lowerings-pass : (calls : List Call) → every is_lowering calls ≡ true → every passes_by calls ≡ true
unfolding every is_lowering passes_by
lowerings-pass [] e = refl
lowerings-pass (Call.reading text marks ∷ calls) e = absurd (false≢true e)
lowerings-pass (Call.lowering graph scratch ∷ calls) e = lowerings-pass calls e

pub lowerings-held : (calls : List Call) (h : RunHolds) → every is_lowering calls ≡ true → held_behind calls h ≡ h
unfolding every is_lowering held_behind
lowerings-held [] h e = refl
lowerings-held (Call.reading text marks ∷ calls) h e = absurd (false≢true e)
lowerings-held (Call.lowering graph scratch ∷ calls) h e = lowerings-held calls h e

pub lowerings-answer : (calls : List Call) (h : RunHolds) → every is_lowering calls ≡ true → every is_lowered (run_calls calls h).answers ≡ true
unfolding every is_lowering is_lowered run_calls answered_first
lowerings-answer [] h e = refl
lowerings-answer (Call.reading text marks ∷ calls) h e = absurd (false≢true e)
lowerings-answer (Call.lowering graph scratch ∷ calls) h e = lowerings-answer calls h e

pub lowerings-joined : (calls : List Call) (h : RunHolds) → every is_lowering calls ≡ true → joined_from calls h ≡ []
unfolding every is_lowering joined_from
lowerings-joined [] h e = refl
lowerings-joined (Call.reading text marks ∷ calls) h e = absurd (false≢true e)
lowerings-joined (Call.lowering graph scratch ∷ calls) h e = lowerings-joined calls h e

-- ---- they pass by

pieces-pass : {lent : Lengths} {text : Text} {s : State} {marks : List ℕ} {calls : List Call} → LoweredPieces lent text s marks calls → Pieces lent text s marks calls
pieces-pass (LoweredPieces.last t) = Pieces.last t
pieces-pass (LoweredPieces.onward m₁ m₂ ls calls t z o p) = Pieces.onward m₁ m₂ ls calls t z (lowerings-pass ls o) (pieces-pass p)
pieces-pass (LoweredPieces.dropped m₁ m₂ t w r) = Pieces.dropped m₁ m₂ t w r

cut-passes : {lent : Lengths} {s : State} {jobs : List Job} {calls : List Call} → LoweredCut lent s jobs calls → CutInto lent s jobs calls
cut-passes LoweredCut.done = CutInto.done
cut-passes (LoweredCut.tape ps calls p c) = CutInto.tape ps calls (pieces-pass p) (cut-passes c)
cut-passes (LoweredCut.lowering c) = CutInto.lowering (cut-passes c)
cut-passes (LoweredCut.too_long t c) = CutInto.too_long t (cut-passes c)

-- ---- the answers

one-answers : (lent : Lengths) (text : Text) (s : State) (marks : List ℕ) → tape_lengths (length text) (length marks) ≡ true
    → let r = read_state lent s text marks in
    LoweredAnswer r.answer.number (number_in_run s.events r.answer) r.answer.place (run_calls (Call.reading text marks ∷ []) (RunHolds.holding lent s)).answers
unfolding run_calls answered_first held_after
one-answers lent text s marks t = rw (read_held_lem lent s text marks t) LoweredAnswer.last

pieces-answer : {lent : Lengths} {text : Text} {s : State} {marks : List ℕ} {calls : List Call} → LoweredPieces lent text s marks calls
    → let r = read_state lent s text marks in
    LoweredAnswer r.answer.number (number_in_run s.events r.answer) r.answer.place (run_calls calls (RunHolds.holding lent s)).answers
unfolding run_calls answered_first
pieces-answer {lent} {text} {s} (LoweredPieces.last {marks = marks} t) = one-answers lent text s marks t
pieces-answer {lent} {text} {s} (LoweredPieces.onward m₁ m₂ ls calls t z o p) =
    let s₁ = (read_state lent s text m₁).state in
    rw (cut-accepted lent s text m₁ m₂ z, number_same lent text s m₁ m₂ z, first-held lent text s m₁ m₂ z t, passed-ran lent text s m₁ m₂ z t ls calls (lowerings-pass ls o))
    (LoweredAnswer.onward _ _ _ _ (lowerings-answer ls (RunHolds.holding lent s₁) o) (pieces-answer p))
pieces-answer {lent} {text} {s} (LoweredPieces.dropped m₁ m₂ t w r) = rw (cut-refused lent s text m₁ m₂ r (λ n. w)) (one-answers lent text s m₁ t)

cut-answers : {lent : Lengths} {s : State} {jobs : List Job} {calls : List Call} → LoweredCut lent s jobs calls
    → LoweredGathered (jobs_done lent s jobs).answers (run_calls calls (RunHolds.holding lent s)).answers
unfolding jobs_done ended_first tape_answer run_calls answered_first is_lowered refused_with
cut-answers LoweredCut.done = LoweredGathered.done
cut-answers {lent} {s} (LoweredCut.tape ps calls p c) =
    rw (run_calls-append ps calls (RunHolds.holding lent s), (pieces-leave (pieces-pass p)).held) (LoweredGathered.tape _ _ (pieces-answer p) (cut-answers c))
cut-answers (LoweredCut.lowering c) = LoweredGathered.lowering refl (cut-answers c)
cut-answers {lent} {s} (LoweredCut.too_long {text = text} {marks = marks} t c) = rw (read-long lent s text marks t) (LoweredGathered.too_long (cut-answers c))

-- by the definition, and for the calls made
pub cut-lowerings : (x : Sheet) (jobs : List Job) (calls : List Call) → good_lengths (lengths_of x) ≡ true → good x ≡ true → LoweredCut (lengths_of x) (state_of x) jobs calls
    → LoweredAlike (lengths_of x) (jobs_done (lengths_of x) (state_of x) jobs) (run x calls)
unfolding run
cut-lowerings x jobs calls l g c = record { answers = rw (hold-good x l g) (cut-answers c); sheet = (cut-run x jobs calls l g (cut-passes c)).sheet }

pub cut-lowerings-made : {x x' : Sheet} {jobs : List Job} {calls : List Call} {answers : List Answered} → words x.rows ≡ true → good_lengths (lengths_of x) ≡ true → good x ≡ true
    → LoweredCut (lengths_of x) (state_of x) jobs calls → Trace x calls answers x'
    → LoweredAlike (lengths_of x) (jobs_done (lengths_of x) (state_of x) jobs) (record { answers = answers; last = x' })
cut-lowerings-made {x} {jobs = jobs} {calls = calls} w l g c t = rw (runs w t) (cut-lowerings x jobs calls l g c)
