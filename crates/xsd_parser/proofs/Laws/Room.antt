-- The room of a state: the namespace, the finished items and the open type, each once, and nothing else. So what a replaced content, base or namespace
-- held is free after the event, and 11 is judged on the state after it alone. Assumes nothing.
use Prim.Native.Nat.{ℕ, ◌<◌}
use mathlib.Core.Path.{◌≡◌}
use borrow.Author.Tests.{lt-ltb}
use Rattle.sheet.specs.Lengths.{Lengths}
use Rattle.xsd_types.specs.State.{Reader, State}
use Rattle.xsd_parser.specs.Event.{Event}
use Rattle.xsd_parser.specs.Handlers.{ok, ◌and_then◌, refuse}
use Rattle.xsd_parser.specs.Step.{handled, tags_after, counted, room_for, step}
use mathlib.Core.Bool.{true, false}
use Rattle.sheet.specs.Returned.{no_room}
use Rattle.xsd_types.specs.Sheet.{state_fits}

-- an event that the counters and the handlers accept is refused by 11 exactly where the state after it has no room
pub step_room : (lent : Lengths) (s : State) (e : Event) (n : ℕ) (r : Reader) → s.events < 1000000 → tags_after e s.open_tags ≡ ok n
    → handled s.by_standard s.events e s.reader ≡ ok r → step lent s e ≡ room_for lent (counted s n r)
unfolding step ◌and_then◌
step_room lent s e n r h t k = rw (lt-ltb s.events 1000000 h, t, k)

pub room_fits : (lent : Lengths) (s : State) → state_fits lent.rows lent.names s ≡ true → room_for lent s ≡ ok s
unfolding room_for
room_fits lent s e = rw e

pub room-lacks : (lent : Lengths) (s : State) → state_fits lent.rows lent.names s ≡ false → room_for lent s ≡ refuse no_room
unfolding room_for
room-lacks lent s e = rw e
