-- Events joined: paper 01, "Other readings judge records in order, by the state before each and their own text and marks: an accepted one changes the
-- state as above, one event more done; the first refused one changes nothing and drops the rest of the piece. Events joined are the records so judged."
--     judged_in      the records of a piece that a reading on a state judges
--     judged_held    those of a reading on what is held; none under 1 or 2
--     joined_from    those of all readings of a list of calls, in order
--     joined        the events joined of a run
--     accepted_events    the events of records that are accepted, which are those that have a number in the run
--     after_record, after_records    the state after one record; after records, one after the other, with no word of pieces
use Rattle.std.specs.Prelude.{ℕ, suc, List, [], ◌∷◌, ◌++◌, length, take, if◌then◌else◌}
use Rattle.text.specs.Text.{Text}
use Rattle.sheet.specs.Rows.{Sheet}
use Rattle.sheet.specs.Lengths.{tape_lengths, Lengths}
use Rattle.xsd_types.specs.State.{State}
use Rattle.xsd_parser.specs.Event.{Event}
use Rattle.xsd_parser.specs.Tape.{Judged, event, refused, records}
use Rattle.xsd_parser.specs.Handlers.{ok, refuse}
use Rattle.xsd_parser.specs.Step.{step}
use Rattle.xsd_parser.specs.Read.{read_state}
use Rattle.runs.specs.Runs.{Call, RunHolds, hold, read_held}

-- "place is events read", or the refused event's number in the piece: as many records are accepted, and the one behind them, if there is one, is refused
unfoldable pub judged_in : Lengths → State → Text → List ℕ → List Judged
judged_in lent s text marks = take (suc (read_state lent s text marks).answer.place) (records text marks)

unfoldable pub judged_held : RunHolds → Text → List ℕ → List Judged
judged_held (RunHolds.bad_lengths x) text marks = []
judged_held (RunHolds.not_good x) text marks = []
judged_held (RunHolds.holding lent s) text marks = if tape_lengths (length text) (length marks) then judged_in lent s text marks else []

unfoldable pub joined_from : List Call → RunHolds → List Judged
joined_from [] h = []
joined_from (Call.reading text marks ∷ calls) h = judged_held h text marks ++ joined_from calls (read_held h text marks).held
joined_from (Call.lowering graph scratch ∷ calls) h = joined_from calls h

unfoldable pub joined : Sheet → List Call → List Judged
joined x calls = joined_from calls (hold x)

unfoldable pub after_record : Lengths → State → Judged → State
after_record lent s (refused r) = s
after_record lent s (event e) = elim (step lent s e) [ ok next ↦ next | refuse r ↦ s ]

unfoldable pub after_records : Lengths → State → List Judged → State
after_records lent s [] = s
after_records lent s (j ∷ js) = after_records lent (after_record lent s j) js

-- order 5: "the number in the run" of an event is its place among these, from 0
unfoldable pub accepted_events : Lengths → State → List Judged → List Event
accepted_events lent s [] = []
accepted_events lent s (refused r ∷ js) = accepted_events lent s js
accepted_events lent s (event e ∷ js) = elim (step lent s e) [ ok next ↦ e ∷ accepted_events lent next js | refuse r ↦ accepted_events lent s js ]
