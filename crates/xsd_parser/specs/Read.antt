-- The reading call: paper 01, "Returned numbers".
--     Reading       how far a list of records was read: number, place and the state reached
--     read_records   judges the records in order: "an accepted one changes the state as above, one event more done; the first refused one changes
--                   nothing and drops the rest of the piece". n events were read before
--     read_state     the reading of a piece on a state
--     ReadAnswer    a reading's answer and the sheet afterwards
--     read          the call; ReadIs: what it says of itself
use Rattle.std.specs.Prelude.{ℕ, suc, ◌≡◌, List, [], ◌∷◌, ◌&&◌, length, if◌then◌else◌}
use Rattle.text.specs.Text.{Text}
use Rattle.sheet.specs.Rows.{Sheet}
use Rattle.sheet.specs.Lengths.{tape_lengths, Answer, Lengths, lengths_of, good_lengths}
use Rattle.xsd_types.specs.State.{State}
use Rattle.xsd_types.specs.Count.{sheet_of, good, state_of}
use Rattle.xsd_parser.specs.Tape.{Judged, event, refused, records}
use Rattle.xsd_parser.specs.Handlers.{ok, refuse}
use Rattle.xsd_parser.specs.Step.{step}

pub record Reading : Type 0 where
  pub answer : Answer
  pub state : State

unfoldable pub read_records : Lengths → ℕ → State → List Judged → Reading
read_records lent n s [] = record { answer = record { number = 0; place = n }; state = s }
read_records lent n s (refused r ∷ js) = record { answer = record { number = r; place = n }; state = s }
read_records lent n s (event e ∷ js) =
    elim (step lent s e) [
      | ok next ↦ read_records lent (suc n) next js
      | refuse r ↦ record { answer = record { number = r; place = n }; state = s }
    ]

unfoldable pub read_state : Lengths → State → Text → List ℕ → Reading
read_state lent s text marks = read_records lent 0 s (records text marks)

pub record ReadAnswer : Type 0 where
  pub answer : Answer
  pub sheet : Sheet

unfoldable pub refused_at : ℕ → Sheet → ReadAnswer
refused_at r x = record { answer = record { number = r; place = 0 }; sheet = x }

unfoldable pub sheet_of_reading : Lengths → Reading → ReadAnswer
sheet_of_reading lent r = record { answer = r.answer; sheet = sheet_of r.state lent.rows lent.names }

-- "Reading: 1, 2, then event by event"
unfoldable pub read : Sheet → Text → List ℕ → ReadAnswer
read x text marks =
    if good_lengths (lengths_of x) && tape_lengths (length text) (length marks)
    then if good x then sheet_of_reading (lengths_of x) (read_state (lengths_of x) (state_of x) text marks) else refused_at 2 x
    else refused_at 1 x

-- what a reading says of itself: number, place and the sheet afterwards are the definition's
abbrev pub ReadIs : Sheet → Text → List ℕ → Answer → Sheet → Type 0
ReadIs before text marks answer after = ◌≡◌ {A = ReadAnswer} (record { answer = answer; sheet = after }) (read before text marks)
