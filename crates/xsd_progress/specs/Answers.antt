-- What the answer for the open tags, which is a result, says in the terms of xsd_parser's Step.
--     tags          the number of open tags, or the refusal
--     event_as       the event of a kind, with its tag where it is no close
use Rattle.std.specs.Prelude.{ℕ, eqb, if◌then◌else◌, Result, Ok, Err}
use Rattle.sheet.specs.declared.refusal.Refusal.{Refusal}
use Rattle.sheet.specs.Returned.{refusal_number}
use Rattle.xsd_parser.specs.Event.{Tag, Event}
use Rattle.xsd_parser.specs.Kinds.{close_kind}
use Rattle.xsd_parser.specs.Tape.{event_of}
use Rattle.xsd_parser.specs.Handlers.{Outcome, ok, refuse}

unfoldable pub tags : Result ℕ Refusal → Outcome ℕ
tags (Ok n) = ok n
tags (Err r) = refuse (refusal_number r)

unfoldable pub event_as : ℕ → Tag → Event
event_as kind t = if eqb kind close_kind then Event.close else event_of kind t
