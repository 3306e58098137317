-- A run: paper 01, "A run is a list of readings and lowerings; only its state, the sheet with the lengths of its buffers, goes from call to call.
-- The definition starts from the first sheet and sees of each call all arguments but the sheet."
--     Call          a reading or a lowering, with all arguments but the sheet
--     Answered      what a call answers: number and place; of a reading the refused event's number in the run, of a lowering graph and scratch
--     number_in_run   the number in the run of the event that a reading refuses, after so many events done before the call
--     RunHolds          what the run holds: a state with the lengths of its buffers; or the first sheet, where its lengths are bad or it is not good
--     hold          what a run begins with
--     GoodStart     a sheet that a run begins with as a state: its lengths are within the limits and it is good
--     read_held, lower_held    a call on what is held
--     run_calls      the calls in order
--     run           the answers of all calls and the last sheet. It packs no sheet in between
use Rattle.std.specs.Prelude.{ℕ, ◌+◌, ◌≡◌, true, List, [], ◌∷◌, length, if◌then◌else◌}
use Rattle.std.proofs.Math.Option.{Option, some, none}
use Rattle.text.specs.Text.{Text, between}
use Rattle.sheet.specs.Rows.{Sheet}
use Rattle.sheet.specs.Lengths.{tape_lengths, Answer, Lengths, lengths_of, good_lengths}
use Rattle.xsd_types.specs.State.{State}
use Rattle.xsd_types.specs.Count.{sheet_of, good, state_of}
use Rattle.xsd_parser.specs.Read.{Reading, read_state}
use Rattle.ir_lower.specs.Call.{Lowered, unchanged, lower_state}

pub data Call : Type 0 where
  reading : Text → List ℕ → Call
  lowering : Sheet → List ℕ → Call

pub data Answered : Type 0 where
  read_as : Answer → Option ℕ → Answered
  lowered_as : Lowered → Answered

-- "place is the event's number in the piece, from 0 .. Added to events done before the call, it is the number in the run." Only 3 to 11 refuse an event:
-- under 0, 1 and 2 there is none to number
unfoldable pub number_in_run : ℕ → Answer → Option ℕ
number_in_run events_done a = if between 3 11 a.number then some (events_done + a.place) else none

pub data RunHolds : Type 0 where
  bad_lengths : Sheet → RunHolds
  not_good : Sheet → RunHolds
  holding : Lengths → State → RunHolds

unfoldable pub hold : Sheet → RunHolds
hold x =
    if good_lengths (lengths_of x)
    then if good x then RunHolds.holding (lengths_of x) (state_of x) else RunHolds.not_good x
    else RunHolds.bad_lengths x

pub record GoodStart (x : Sheet) : Type 0 where
  pub lengths : good_lengths (lengths_of x) ≡ true
  pub is_good : good x ≡ true

unfoldable pub sheet_held : RunHolds → Sheet
sheet_held (RunHolds.bad_lengths x) = x
sheet_held (RunHolds.not_good x) = x
sheet_held (RunHolds.holding lent s) = sheet_of s lent.rows lent.names

pub record AfterCall : Type 0 where
  pub answer : Answer
  pub in_run : Option ℕ
  pub held : RunHolds

unfoldable pub refused_with : ℕ → RunHolds → AfterCall
refused_with r h = record { answer = record { number = r; place = 0 }; in_run = none; held = h }

unfoldable pub held_after : Lengths → State → Reading → AfterCall
held_after lent s r =
    record { answer = r.answer; in_run = number_in_run s.events r.answer; held = RunHolds.holding lent r.state }

-- "A lowering, or a reading under 1 or 2, keeps the state. Other readings judge records in order, by the state before each and their own text and marks"
unfoldable pub read_held : RunHolds → Text → List ℕ → AfterCall
read_held (RunHolds.bad_lengths x) text marks = refused_with 1 (RunHolds.bad_lengths x)
read_held (RunHolds.not_good x) text marks =
    refused_with (if tape_lengths (length text) (length marks) then 2 else 1) (RunHolds.not_good x)
read_held (RunHolds.holding lent s) text marks =
    if tape_lengths (length text) (length marks)
    then held_after lent s (read_state lent s text marks)
    else refused_with 1 (RunHolds.holding lent s)

unfoldable pub lower_held : RunHolds → Sheet → List ℕ → Lowered
lower_held (RunHolds.bad_lengths x) graph scratch = unchanged 1 graph scratch
lower_held (RunHolds.not_good x) graph scratch = if good_lengths (lengths_of graph) then unchanged 2 graph scratch else unchanged 1 graph scratch
lower_held (RunHolds.holding lent s) graph scratch = if good_lengths (lengths_of graph) then lower_state s graph scratch else unchanged 1 graph scratch

pub record Ran : Type 0 where
  pub answers : List Answered
  pub last : Sheet

unfoldable pub answered_first : Answered → Ran → Ran
answered_first a r = record { answers = a ∷ r.answers; last = r.last }

unfoldable pub run_calls : List Call → RunHolds → Ran
run_calls [] h = record { answers = []; last = sheet_held h }
run_calls (Call.reading text marks ∷ calls) h =
    let st = read_held h text marks in
    answered_first (Answered.read_as st.answer st.in_run) (run_calls calls st.held)
run_calls (Call.lowering graph scratch ∷ calls) h =
    answered_first (Answered.lowered_as (lower_held h graph scratch)) (run_calls calls h)

unfoldable pub run : Sheet → List Call → Ran
run x calls = run_calls calls (hold x)
