-- An event on a sheet that holds a state's rows.
--     open_head_after  the row of the open type's head after an event
--     stands_at      where a reading stands after an event whose mode and open tags are these, the open type's head at a row
--     StandsAfter   it stands so for the mode and the open tags after an event that arrives
--     Due           an event that arrives is due on a state: it brings the state's choice, the handlers accept it and do what was decided, and the state
--                   after it is proper
--     DueRoom       there is such an event and state, and the sheet has no more rows than the paper has it
--     Refuses, Accepts    the outcome is a refusal, and the sheet is left; it is a state, and the sheet holds its rows
--     EventEnded    what an answer says of an outcome
--     Stepped       the answer for every event that is due: 11, or the state after it
use Rattle.std.specs.Prelude.{ℕ, ◌+◌, ◌≤◌, ◌≡◌, true, ltb, length, if◌then◌else◌, Result, Ok, Err}
use Rattle.sheet.specs.declared.refusal.Refusal.{Refusal}
use Rattle.sheet.specs.Returned.{refusal_number}
use Rattle.sheet.specs.Limits.{rows_limit}
use Rattle.xsd_types.specs.Contexts.{simple_type_context}
use Rattle.xsd_types.specs.State.{Reader, State, proper}
use Rattle.xsd_parser.specs.Event.{Tag, Event}
use Rattle.xsd_parser.specs.Handlers.{Outcome, ok, refuse}
use Rattle.xsd_parser.specs.Step.{counted, room_for}
use Rattle.rows.specs.declared.writer.SheetWriter.{SheetWriter}
use Rattle.rows.specs.Writer.{SameBuffers}
use Rattle.xsd_actions.specs.Actions.{Action, Acted}
use Rattle.xsd_actions.specs.Answers.{decision}
use Rattle.xsd_progress.specs.Answers.{event_as}
use Rattle.xsd_progress.specs.declared.open_tags.Arrival.{Arrival}
use Rattle.xsd_progress.specs.declared.open_tags.Arrived.{Arrived}
use Rattle.xsd_progress.specs.Change.{EventAfter}
use Rattle.xsd_progress.specs.declared.Progress.{Progress}
use Rattle.xsd_progress.specs.Progress.{At, lent_to}

unfoldable pub open_head_after : Progress → ℕ → ℕ
open_head_after p rows_used = if ltb p.mode.context simple_type_context then rows_used else p.head

abbrev pub stands_at : Progress → Arrived → ℕ → Progress
stands_at p after head =
    record { mode = after.mode; events = p.events + 1; open_tags = after.open_tags; by_standard = p.by_standard; head = head }

pub record StandsAfter (p : Progress) (x : Arrival) (head : ℕ) (p' : Progress) : Type 0 where
  pub after : Arrived
  pub arrived : EventAfter x p.mode after
  pub stands : p' ≡ stands_at p after head

pub record Due (w : SheetWriter) (p : Progress) (x : Arrival) (s : State) (e : Event) (r : Reader) : Type 0 where
  pub at : At s w p
  pub tag : Tag
  pub event_is : e ≡ event_as x.kind tag
  pub action : Action
  pub decided : decision x.decision ≡ ok action
  pub choice : x.by_standard ≡ s.by_standard
  pub acted : Acted s.by_standard e s.reader action r
  pub proper_after : proper (counted s x.open_tags r) ≡ true

pub record DueRoom (w : SheetWriter) (p : Progress) (x : Arrival) : Type 0 where
  pub s : State
  pub e : Event
  pub r : Reader
  pub due : Due w p x s e r
  pub few : length w.rows.now ≤ rows_limit

pub record Refuses (o : Outcome State) (w w' : SheetWriter) (r : Refusal) : Type 0 where
  pub refused : o ≡ refuse (refusal_number r)
  pub kept : w' ≡ w

pub record Accepts (o : Outcome State) (w' : SheetWriter) (p : Progress) : Type 0 where
  pub s' : State
  pub accepted : o ≡ ok s'
  pub stands : At s' w' p

unfoldable pub EventEnded : Outcome State → SheetWriter → SheetWriter → Result Progress Refusal → Type 0
EventEnded o w w' (Err r) = Refuses o w w' r
EventEnded o w w' (Ok p) = Accepts o w' p

pub record Stepped (w : SheetWriter) (p : Progress) (x : Arrival) (y : Result Progress Refusal) (w' : SheetWriter) : Type 0 where
  pub same : SameBuffers w w'
  pub ended : (s : State) (e : Event) (r : Reader) → Due w p x s e r → EventEnded (room_for (lent_to w.rows.now w.names.now) (counted s x.open_tags r)) w w' y
