-- What proofs say of written markup that is read. No contract cites it.
--     written_tag_ok, markup_ok    names and values may be written: Written's tests of a tag
--     open_behind, closes, nested    each end tag closes the innermost open tag; the names that are open, the innermost first, and those that are open behind all
--     placed_one, placed_events  the events of markup written at an offset
--     Below              as many rows and bytes of names, or fewer
--     Handled            events that are refused for nothing but room: each is handled, has its open tag, and leaves no fewer rows and bytes of names
--     event_of_markup      the event that markup is read as; events_of: the records of a list
use Rattle.std.specs.Prelude.{ℕ, ◌+◌, ◌≤◌, ◌≡◌, List, [], ◌∷◌, Bool, true, false, ◌&&◌, length}
use Rattle.text.specs.Text.{Text, every, same}
use Rattle.sheet.specs.Rows.{Row, names_of}
use Rattle.xsd_types.specs.State.{Reader, State}
use Rattle.xsd_types.specs.Rows.{rows_of}
use Rattle.xsd_parser.specs.Kinds.{start_kind, empty_kind}
use Rattle.xsd_parser.specs.Event.{Tag, Event}
use Rattle.xsd_parser.specs.Tape.{Judged, event}
use Rattle.xsd_parser.specs.Handlers.{ok}
use Rattle.xsd_parser.specs.Step.{handled, tags_after, counted}
use Rattle.xml.specs.Tape.{TapeEvent}
use Rattle.xml.specs.Written.{is_name_text, written_attribute_ok, new_keys, written_event}
use Rattle.xsd_written.specs.Markup.{Markup, starts, empties, ends, markup_text}

unfoldable pub written_tag_ok : Tag → Bool
written_tag_ok t = is_name_text t.name && every written_attribute_ok t.attributes && new_keys [] t.attributes

unfoldable pub markup_ok : Markup → Bool
markup_ok (starts t) = written_tag_ok t
markup_ok (empties t) = written_tag_ok t
markup_ok (ends n) = is_name_text n

-- the tags open behind a piece of markup; nothing is open where an end tag matches none
unfoldable pub open_behind : Markup → List Text → List Text
open_behind (starts t) names = t.name ∷ names
open_behind (empties t) names = names
open_behind (ends n) [] = []
open_behind (ends n) (m ∷ names) = names

unfoldable pub closes : Markup → List Text → Bool
closes (starts t) names = true
closes (empties t) names = true
closes (ends n) [] = false
closes (ends n) (m ∷ names) = same n m

-- each end tag closes the innermost open tag, some tag is open up to the last one, and that closes the outermost
unfoldable pub nested : List Text → List Markup → Bool
nested [] [] = true
nested [] (m ∷ ms) = false
nested (n ∷ names) [] = false
nested (n ∷ names) (m ∷ ms) = closes m (n ∷ names) && nested (open_behind m (n ∷ names)) ms

abbrev pub placed_one : ℕ → Markup → TapeEvent
placed_one at (starts t) = written_event at start_kind t
placed_one at (empties t) = written_event at empty_kind t
placed_one at (ends n) = TapeEvent.close

unfoldable pub placed_events : ℕ → List Markup → List TapeEvent
placed_events at [] = []
placed_events at (m ∷ ms) = placed_one at m ∷ placed_events (at + length (markup_text m)) ms

abbrev pub event_of_markup : Markup → Event
event_of_markup (starts t) = Event.start t
event_of_markup (empties t) = Event.empty t
event_of_markup (ends n) = Event.close

unfoldable pub events_of : List Markup → List Judged
events_of [] = []
events_of (m ∷ ms) = event (event_of_markup m) ∷ events_of ms

pub record Below (a b : List Row) : Type 0 where
  pub rows : length a ≤ length b
  pub names : length (names_of a) ≤ length (names_of b)

pub data Handled : State → List Judged → State → Type 0 where
  none_left : {s : State} → Handled s [] s
  one_more : {s s₂ : State} {e : Event} {js : List Judged} {open_tags : ℕ} {r : Reader} → tags_after e s.open_tags ≡ ok open_tags
      → handled s.by_standard s.events e s.reader ≡ ok r → Below (rows_of s) (rows_of (counted s open_tags r))
      → Handled (counted s open_tags r) js s₂ → Handled s (event e ∷ js) s₂
