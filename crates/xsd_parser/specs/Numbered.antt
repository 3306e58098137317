-- Reading by a numbering of events, from the events done before an event to the number that what gives a name keeps. Order 5's is the events done; with 0
-- for all it is reading as it was before the order. And which event gave a head its name.
--     step_by, read_records_by, read_state_by    Step's and Read's, by a numbering
--     unknown_number the numbering before order 5
--     unnumbered_reading    a reading with the numbers of its state cleared
--     makes_head     a tag that a head is made of: a start of a type or an element, an empty element
--     item_number, open_number, numbered_heads    a head's name and its event's number: of an item, of an open type, of a reader
--     more_heads     in the handling of an event a head was made: the reader after it has more than the one before
--     given_by       where it was, the event's own name and number (named_by); else nothing
--     heads_given    what accepted events give, in order; the first one's number is n
--     gave           one of them has the name and the number
use Rattle.std.specs.Prelude.{ℕ, suc, List, [], ◌∷◌, ◌++◌, map, length, Bool, false, ◌&&◌, ◌||◌, eqb, ltb, if◌then◌else◌}
use Rattle.std.proofs.Math.Option.{Option, some, none}
use Rattle.text.specs.Text.{Text, same}
use Rattle.sheet.specs.Limits.{events_limit}
use Rattle.sheet.specs.Returned.{too_many_events}
use Rattle.sheet.specs.Lengths.{Lengths}
use Rattle.xsd_types.specs.Types.{Item}
use Rattle.xsd_types.specs.State.{HeadNumber, Context, Reader, State}
use Rattle.xsd_types.specs.Unnumbered.{unnumbered}
use Rattle.xsd_parser.specs.declared.words.Word.{Word}
use Rattle.xsd_parser.specs.Event.{Event, event_name}
use Rattle.xsd_parser.specs.Seen.{seen, tag_is}
use Rattle.xsd_parser.specs.Tape.{Judged, event, refused, records}
use Rattle.xsd_parser.specs.Handlers.{Outcome, ok, refuse, ◌and_then◌}
use Rattle.xsd_parser.specs.Step.{handled, tags_after, counted, room_for, step}
use Rattle.xsd_parser.specs.Read.{Reading}

unfoldable pub step_by : (ℕ → ℕ) → Lengths → State → Event → Outcome State
step_by number lent s e =
    if ltb s.events events_limit
    then tags_after e s.open_tags and_then (λ open_tags.
    handled s.by_standard (number s.events) e s.reader and_then (λ r.
    room_for lent (counted s open_tags r)))
    else refuse too_many_events

unfoldable pub read_records_by : (ℕ → ℕ) → Lengths → ℕ → State → List Judged → Reading
read_records_by number lent n s [] = record { answer = record { number = 0; place = n }; state = s }
read_records_by number lent n s (refused r ∷ js) = record { answer = record { number = r; place = n }; state = s }
read_records_by number lent n s (event e ∷ js) =
    elim (step_by number lent s e) [
      | ok next ↦ read_records_by number lent (suc n) next js
      | refuse r ↦ record { answer = record { number = r; place = n }; state = s }
    ]

unfoldable pub read_state_by : (ℕ → ℕ) → Lengths → State → Text → List ℕ → Reading
read_state_by number lent s text marks = read_records_by number lent 0 s (records text marks)

unfoldable pub unknown_number : ℕ → ℕ
unknown_number events_done = 0

-- the same answer, and the state reached without its numbers
unfoldable pub unnumbered_reading : Reading → Reading
unnumbered_reading r = record { answer = r.answer; state = unnumbered r.state }

-- "start `simpleType` or `complexType` needs a name and opens a type; `element`, start or empty, is kept if it has name and type"
unfoldable pub makes_head : Event → Bool
makes_head (Event.start t) = tag_is (seen t) Word.SimpleType || tag_is (seen t) Word.ComplexType || tag_is (seen t) Word.Element
makes_head (Event.empty t) = tag_is (seen t) Word.Element
makes_head Event.close = false

unfoldable pub item_number : Item → HeadNumber
item_number (Item.element e) = record { name = e.name; event = e.event }
item_number (Item.simple_type t) = record { name = t.name; event = t.event }
item_number (Item.complex_type t) = record { name = t.name; event = t.event }

unfoldable pub open_number : Context → List HeadNumber
open_number Context.no_context = []
open_number (Context.in_schema n) = []
open_number (Context.in_simple_type t) = t.head ∷ []
open_number (Context.in_complex_type t) = t.head ∷ []

-- the heads in order, the open type's last: each name with its c
unfoldable pub numbered_heads : Reader → List HeadNumber
numbered_heads r = map item_number r.schema.items ++ open_number r.context

-- order 5, "the event that gave it its name": the tag that carries it and in whose handling the head was made, so that there is one head more behind it
unfoldable pub more_heads : Reader → Reader → Bool
more_heads r r' = ltb (length (numbered_heads r)) (length (numbered_heads r'))

unfoldable pub named_by : ℕ → Option Text → List HeadNumber
named_by n none = []
named_by n (some name) = record { name = name; event = n } ∷ []

unfoldable pub given_by : ℕ → Event → Reader → Reader → List HeadNumber
given_by n e r r' = if makes_head e && more_heads r r' then named_by n (event_name e) else []

-- the accepted events alone have numbers
unfoldable pub heads_given : Lengths → ℕ → State → List Judged → List HeadNumber
heads_given lent n s [] = []
heads_given lent n s (refused r ∷ js) = heads_given lent n s js
heads_given lent n s (event e ∷ js) =
    elim (step lent s e) [
      | ok next ↦ given_by n e s.reader next.reader ++ heads_given lent (suc n) next js
      | refuse r ↦ heads_given lent n s js
    ]

unfoldable pub gave : List HeadNumber → Text → ℕ → Bool
gave [] name n = false
gave (h ∷ hs) name n = (same h.name name && eqb h.event n) || gave hs name n
