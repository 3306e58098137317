-- The same list, cut elsewhere. Paper 01: "where no reading meets 1, a tape may be cut between any events over the same text: up to its first refused event the
-- sheet is the same, and that event has the same refusal and the same number in the run. Past it the cut counts, since it decides what is dropped."
--     Job               a tape of any length, or a lowering
--     EndedJobs             what jobs end with: an answer for each, and the state
--     jobs_done          the jobs in order, each tape read whole, with no word of pieces or of a tape's length
--     jobs_judged        the records of the tapes that are judged, in order
--     jobs_of            the jobs that calls do as they stand: a reading that meets 1 does none
--     passes_by          the call reads nothing: a lowering, or a reading that meets 1; held_behind: what a run holds behind calls
--     Pieces            calls that read a tape in pieces, any calls between them that pass by
--     CutInto           calls that do the jobs, each tape in pieces; a reading that meets 1 may stand anywhere
--     met_one            the answer of a reading that meets 1
--     PassedBy          the answers of calls that pass by
--     PiecesAnswer      the answers of a tape's pieces, where the tape whole has this number, place and number in the run
--     Gathered          the answers of calls, where those of the jobs are these
--     CutAlike          a run of calls ends as the jobs do
use Rattle.std.specs.Prelude.{ℕ, ◌+◌, ◌≡◌, Bool, true, false, not, List, [], ◌∷◌, ◌++◌, length, if◌then◌else◌}
use Rattle.std.proofs.Math.Option.{Option}
use Rattle.text.specs.Text.{Text, every}
use Rattle.sheet.specs.Rows.{Sheet}
use Rattle.sheet.specs.Lengths.{tape_lengths, Answer, Lengths}
use Rattle.sheet.specs.Returned.{accepted, bad_length}
use Rattle.xsd_types.specs.State.{State}
use Rattle.xsd_types.specs.Count.{sheet_of}
use Rattle.xsd_parser.specs.Tape.{Judged}
use Rattle.xsd_parser.specs.Read.{Reading, read_state}
use Rattle.xsd_parser.specs.Whole.{whole_records}
use Rattle.runs.specs.Runs.{Call, Answered, number_in_run, RunHolds, read_held, lower_held, Ran}
use Rattle.runs.specs.Joined.{judged_in}

pub data Job : Type 0 where
  tape : Text → List ℕ → Job
  lowering : Sheet → List ℕ → Job

pub record EndedJobs : Type 0 where
  pub answers : List Answered
  pub state : State

unfoldable pub ended_first : Answered → EndedJobs → EndedJobs
ended_first a e = record { answers = a ∷ e.answers; state = e.state }

unfoldable pub tape_answer : State → Reading → Answered
tape_answer s r = Answered.read_as r.answer (number_in_run s.events r.answer)

unfoldable pub jobs_done : Lengths → State → List Job → EndedJobs
jobs_done lent s [] = record { answers = []; state = s }
jobs_done lent s (Job.tape text marks ∷ jobs) =
    let r = read_state lent s text marks in
    ended_first (tape_answer s r) (jobs_done lent r.state jobs)
jobs_done lent s (Job.lowering graph scratch ∷ jobs) = ended_first (Answered.lowered_as (lower_held (RunHolds.holding lent s) graph scratch)) (jobs_done lent s jobs)

unfoldable pub jobs_judged : Lengths → State → List Job → List Judged
jobs_judged lent s [] = []
jobs_judged lent s (Job.tape text marks ∷ jobs) = judged_in lent s text marks ++ jobs_judged lent (read_state lent s text marks).state jobs
jobs_judged lent s (Job.lowering graph scratch ∷ jobs) = jobs_judged lent s jobs

unfoldable pub jobs_of : List Call → List Job
jobs_of [] = []
jobs_of (Call.reading text marks ∷ calls) = if tape_lengths (length text) (length marks) then Job.tape text marks ∷ jobs_of calls else jobs_of calls
jobs_of (Call.lowering graph scratch ∷ calls) = Job.lowering graph scratch ∷ jobs_of calls

unfoldable pub passes_by : Call → Bool
passes_by (Call.reading text marks) = not (tape_lengths (length text) (length marks))
passes_by (Call.lowering graph scratch) = true

unfoldable pub held_behind : List Call → RunHolds → RunHolds
held_behind [] h = h
held_behind (Call.reading text marks ∷ calls) h = held_behind calls (read_held h text marks).held
held_behind (Call.lowering graph scratch ∷ calls) h = held_behind calls h

-- from the state s: the last piece; a piece that is accepted, calls that pass by, and the rest in pieces; a piece up to an event's end that is refused, and
-- nothing of the rest
pub data Pieces (lent : Lengths) (text : Text) : State → List ℕ → List Call → Type 0 where
  last : {s : State} {marks : List ℕ} → tape_lengths (length text) (length marks) ≡ true → Pieces lent text s marks (Call.reading text marks ∷ [])
  onward : {s : State} (m₁ m₂ : List ℕ) (between calls : List Call) → tape_lengths (length text) (length m₁) ≡ true → (read_state lent s text m₁).answer.number ≡ accepted
      → every passes_by between ≡ true → Pieces lent text (read_state lent s text m₁).state m₂ calls → Pieces lent text s (m₁ ++ m₂) (Call.reading text m₁ ∷ (between ++ calls))
  dropped : {s : State} (m₁ m₂ : List ℕ) → tape_lengths (length text) (length m₁) ≡ true → whole_records text m₁ ≡ true → ((read_state lent s text m₁).answer.number ≡ accepted → ⊥)
      → Pieces lent text s (m₁ ++ m₂) (Call.reading text m₁ ∷ [])

pub data CutInto (lent : Lengths) : State → List Job → List Call → Type 0 where
  done : {s : State} → CutInto lent s [] []
  tape : {s : State} {text : Text} {marks : List ℕ} {jobs : List Job} (pieces calls : List Call) → Pieces lent text s marks pieces
      → CutInto lent (read_state lent s text marks).state jobs calls → CutInto lent s (Job.tape text marks ∷ jobs) (pieces ++ calls)
  lowering : {s : State} {graph : Sheet} {scratch : List ℕ} {jobs : List Job} {calls : List Call} → CutInto lent s jobs calls
      → CutInto lent s (Job.lowering graph scratch ∷ jobs) (Call.lowering graph scratch ∷ calls)
  too_long : {s : State} {text : Text} {marks : List ℕ} {jobs : List Job} {calls : List Call} → tape_lengths (length text) (length marks) ≡ false → CutInto lent s jobs calls
      → CutInto lent s jobs (Call.reading text marks ∷ calls)

unfoldable pub is_lowered : Answered → Bool
is_lowered (Answered.read_as a n) = false
is_lowered (Answered.lowered_as l) = true

abbrev pub met_one : Answered
met_one = Answered.read_as (record { number = bad_length; place = 0 }) Option.none

pub data PassedBy : List Answered → Type 0 where
  none : PassedBy []
  lowering : {a : Answered} {answers : List Answered} → is_lowered a ≡ true → PassedBy answers → PassedBy (a ∷ answers)
  too_long : {answers : List Answered} → PassedBy answers → PassedBy (met_one ∷ answers)

-- all pieces but the last one are accepted, and the places add up
pub data PiecesAnswer (number : ℕ) (in_run : Option ℕ) : ℕ → List Answered → Type 0 where
  last : {place : ℕ} → PiecesAnswer number in_run place (Answered.read_as (record { number = number; place = place }) in_run ∷ [])
  onward : (place₁ place₂ : ℕ) (between answers : List Answered) → PassedBy between → PiecesAnswer number in_run place₂ answers
      → PiecesAnswer number in_run (place₁ + place₂) (Answered.read_as (record { number = accepted; place = place₁ }) Option.none ∷ (between ++ answers))

pub data Gathered : List Answered → List Answered → Type 0 where
  done : Gathered [] []
  tape : {a : Answer} {in_run : Option ℕ} (pieces : List Answered) {jobs : List Answered} (calls : List Answered) → PiecesAnswer a.number in_run a.place pieces → Gathered jobs calls
      → Gathered (Answered.read_as a in_run ∷ jobs) (pieces ++ calls)
  lowering : {a : Answered} {jobs calls : List Answered} → is_lowered a ≡ true → Gathered jobs calls → Gathered (a ∷ jobs) (a ∷ calls)
  too_long : {jobs calls : List Answered} → Gathered jobs calls → Gathered jobs (met_one ∷ calls)

pub record CutAlike (lent : Lengths) (jobs : EndedJobs) (calls : Ran) : Type 0 where
  pub answers : Gathered jobs.answers calls.answers
  pub sheet : calls.last ≡ sheet_of jobs.state lent.rows lent.names
