-- The tape of a list of events. Paper 01, "Tape".
--     AttributePairs   the pairs of an attribute's key and value
--     TapeEvent        a start or empty tag by its kind, the pair of its name and its attributes; or a close
--     event_marks       the numbers of an event; tape_of: those of a list of events
use Rattle.std.specs.Prelude.{ℕ, List, [], ◌∷◌, ◌++◌, length}
use Rattle.xsd_parser.specs.Tape.{Pair}
use Rattle.xsd_parser.specs.Kinds.{close_kind}

pub record AttributePairs : Type 0 where
  pub key : Pair
  pub value : Pair

pub data TapeEvent : Type 0 where
  tag : ℕ → Pair → List AttributePairs → TapeEvent
  close : TapeEvent

-- "then pairs of offset and length into the text: tag name, then key and value of each attribute"
unfoldable pub attribute_marks : List AttributePairs → List ℕ
attribute_marks [] = []
attribute_marks (x ∷ xs) = x.key.offset ∷ x.key.size ∷ x.value.offset ∷ x.value.size ∷ attribute_marks xs

-- "Kind 1 start, 2 empty, 3 close; a close is just `3 0`."
unfoldable pub event_marks : TapeEvent → List ℕ
event_marks (tag kind name attributes) = kind ∷ length attributes ∷ name.offset ∷ name.size ∷ attribute_marks attributes
event_marks close = close_kind ∷ 0 ∷ []

unfoldable pub tape_marks : List TapeEvent → List ℕ
tape_marks [] = []
tape_marks (e ∷ es) = event_marks e ++ tape_marks es
