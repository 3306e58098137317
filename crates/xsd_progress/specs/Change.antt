-- The open-tag record after an event. Paper 01: "the open-tag record is changed as each event arrives".
--     mode_with      the mode of a record, root seen given
--     ModeAfter     the mode after an event of a kind, by `mode_after`
--     SeenAfter     root seen after an event of a kind
--     Changed       the record after an event that arrives: the open tags counted, the other three by `mode_after`
--     EventAfter    the open tags counted, and the mode by `mode_after`
use Rattle.std.specs.Prelude.{ℕ, ◌≡◌, Bool, Result}
use Rattle.sheet.specs.declared.refusal.Refusal.{Refusal}
use Rattle.xsd_parser.specs.Event.{Tag}
use Rattle.xsd_parser.specs.Handlers.{ok}
use Rattle.xsd_actions.specs.declared.Decision.{Decision}
use Rattle.xsd_actions.specs.declared.Mode.{Mode}
use Rattle.xsd_actions.specs.Actions.{Action, mode_after}
use Rattle.xsd_actions.specs.Answers.{decision}
use Rattle.xsd_progress.specs.Answers.{event_as}
use Rattle.xsd_progress.specs.declared.open_tags.OpenTags.{OpenTags}
use Rattle.xsd_progress.specs.declared.open_tags.Arrival.{Arrival}
use Rattle.xsd_progress.specs.declared.open_tags.Arrived.{Arrived}

unfoldable pub mode_with : Bool → OpenTags → Mode
mode_with seen o = record { context = o.context; nesting = o.nesting; root_seen = seen; extension = o.extension }

pub record ModeAfter (by_standard : Bool) (kind : ℕ) (d : Result Decision Refusal) (m m' : Mode) : Type 0 where
  pub is : (t : Tag) (a : Action) → decision d ≡ ok a → m' ≡ mode_after by_standard (event_as kind t) a m

pub record SeenAfter (kind : ℕ) (d : Result Decision Refusal) (seen seen' : Bool) : Type 0 where
  pub is : (t : Tag) (a : Action) → decision d ≡ ok a → (by_standard : Bool) (m : Mode) → m.root_seen ≡ seen → seen' ≡ (mode_after by_standard (event_as kind t) a m).root_seen

pub record Changed (x : Arrival) (o o' : OpenTags) : Type 0 where
  pub opened : o'.open_tags ≡ x.open_tags
  pub mode_is : (seen : Bool) (t : Tag) (a : Action) → decision x.decision ≡ ok a
      → mode_with (mode_after x.by_standard (event_as x.kind t) a (mode_with seen o)).root_seen o' ≡ mode_after x.by_standard (event_as x.kind t) a (mode_with seen o)

pub record EventAfter (x : Arrival) (m : Mode) (r : Arrived) : Type 0 where
  pub opened : r.open_tags ≡ x.open_tags
  pub mode_is : (t : Tag) (a : Action) → decision x.decision ≡ ok a → r.mode ≡ mode_after x.by_standard (event_as x.kind t) a m
