-- One event on a state, with the refusals 6 to 11. Paper 01, "Returned numbers": "Reading: .. event by event 3, 4, 5, 8, then 6 or 7, 9, 10, 11"
--     handled n     the handlers of 000 on the reader, by the choice of order 3, for the event that has the number n in the run: order 5, "events done" before it
--     tags_after     the open tags after an event; 6 "close with no tag open", 7 "start with 255 open"
--     counted       the state with one event more done, its choice kept
--     room_for       the state where it has room; 11 "the state after the event needs more rows or names than lent"
--     step          the state after the event, or the refusal
use Rattle.std.specs.Prelude.{ℕ, zero, suc, Bool, ltb, if◌then◌else◌}
use Rattle.sheet.specs.Limits.{events_limit, open_tags_limit}
use Rattle.sheet.specs.Returned.{no_tag_open, too_many_open, too_many_events, no_room}
use Rattle.sheet.specs.Lengths.{Lengths}
use Rattle.xsd_types.specs.State.{Reader, State}
use Rattle.xsd_types.specs.Sheet.{state_fits}
use Rattle.xsd_parser.specs.Event.{Event}
use Rattle.xsd_parser.specs.Seen.{seen}
use Rattle.xsd_parser.specs.Handlers.{Outcome, ok, refuse, ◌and_then◌, on_start, on_empty, on_end}

unfoldable pub handled : Bool → ℕ → Event → Reader → Outcome Reader
handled by_standard n (Event.start t) r = on_start by_standard n (seen t) r r.context
handled by_standard n (Event.empty t) r = on_empty n (seen t) r r.context
handled by_standard n Event.close r = ok (on_end r r.context)

unfoldable pub closed : ℕ → Outcome ℕ
closed zero = refuse no_tag_open
closed (suc n) = ok n

unfoldable pub tags_after : Event → ℕ → Outcome ℕ
tags_after (Event.start t) n = if ltb n open_tags_limit then ok (suc n) else refuse too_many_open
tags_after (Event.empty t) n = ok n
tags_after Event.close n = closed n

unfoldable pub counted : State → ℕ → Reader → State
counted s open_tags r = record { reader = r; events = suc s.events; open_tags = open_tags; by_standard = s.by_standard }

unfoldable pub room_for : Lengths → State → Outcome State
room_for lent s = if state_fits lent.rows lent.names s then ok s else refuse no_room

-- 8: "1,000,000 events done"
unfoldable pub step : Lengths → State → Event → Outcome State
step lent s e =
    if ltb s.events events_limit
    then tags_after e s.open_tags and_then (λ open_tags.
    handled s.by_standard s.events e s.reader and_then (λ r.
    room_for lent (counted s open_tags r)))
    else refuse too_many_events
