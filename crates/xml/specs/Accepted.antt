-- What holds of the events of a well-formed text, in the words of the productions, and what they are read as.
--     offset_behind         the offset behind a pair
--     NameAt        the pair is the whole name that stands at its offset
--     ValueAt       the pair is what stands between two equal quotes
--     AttributesAt  attributes from an offset on: keys are names, values stand between quotes, each pair lies inside the text and behind the one before
--     EventAt       the same for an event, whose name stands behind `<`; EventsAt: for each of a list
--     ClosesTags        from so many open tags on, each close has its open tag, and none is left open
--     few_attributes an event that reading does not refuse for its attributes
--     event_read     the event that reading makes of the bytes under an event's pairs; records_read: the records of a list of events
--     ReadsThrough  a reading that meets none of 3, 4, 5 and 6, and leaves so many tags open where it is accepted
use Rattle.std.specs.Prelude.{ℕ, zero, suc, ◌+◌, ◌-◌, ◌≤◌, ◌<◌, ◌≡◌, ◌⊎◌, List, [], ◌∷◌, ◌++◌, Bool, true, false, eqb, leb, length, get_or, drop, if◌then◌else◌}
use Prim.Native.Char.{code}
use Rattle.text.specs.Text.{Text, contains}
use Rattle.sheet.specs.Limits.{attributes_limit}
use Rattle.sheet.specs.Returned.{accepted, too_many_open}
use Rattle.xsd_parser.specs.Kinds.{start_kind, empty_kind}
use Rattle.xsd_parser.specs.Event.{Event}
use Rattle.xsd_parser.specs.Tape.{Pair, pair_text, tag_of, event_of, Judged, event}
use Rattle.xsd_parser.specs.Read.{Reading}
use Rattle.xml.specs.Classes.{is_name_start, begins}
use Rattle.xml.specs.Steps.{leading_name}
use Rattle.xml.specs.Values.{is_quote}
use Rattle.xml.specs.Tape.{AttributePairs, TapeEvent}

abbrev pub offset_behind : Pair → ℕ
offset_behind p = p.offset + p.size

-- [5] Name ::= NameStartChar (NameChar)*
pub record NameAt (text : Text) (p : Pair) : Type 0 where
  pub starts : begins is_name_start (drop p.offset text) ≡ true
  pub whole : pair_text text p ≡ leading_name (drop p.offset text)

-- [10] AttValue ::= '"' ([^<&"] | Reference)* '"' | "'" ([^<&'] | Reference)* "'"
pub record ValueAt (text : Text) (p : Pair) : Type 0 where
  pub quote : ℕ
  pub rest : Text
  pub quotes : is_quote quote ≡ true
  pub stands : drop (p.offset - 1) text ≡ quote ∷ pair_text text p ++ quote ∷ rest
  pub none : contains quote (pair_text text p) ≡ false

-- [41] Attribute ::= Name Eq AttValue
abbrev pub AttributesAt : Text → ℕ → List AttributePairs → Type 0
AttributesAt text end [] = Unit {0}
AttributesAt text end (x ∷ xs) =
    (end ≤ x.key.offset) × NameAt text x.key × (offset_behind x.key < x.value.offset) × ValueAt text x.value × (offset_behind x.value ≤ length text) × AttributesAt text (offset_behind x.value) xs

-- [40] STag ::= '<' Name (S Attribute)* S? '>', [44] EmptyElemTag ::= '<' Name (S Attribute)* S? '/>'
abbrev pub EventAt : Text → TapeEvent → Type 0
EventAt text (TapeEvent.tag kind name xs) =
    (start_kind ≤ kind) × (kind ≤ empty_kind) × (get_or text (name.offset - 1) 0 ≡ code "<") × NameAt text name × (offset_behind name ≤ length text) × AttributesAt text (offset_behind name) xs
EventAt text TapeEvent.close = Unit {0}

abbrev pub EventsAt : Text → List TapeEvent → Type 0
EventsAt text [] = Unit {0}
EventsAt text (e ∷ es) = EventAt text e × EventsAt text es

-- [39] element ::= EmptyElemTag | STag content ETag
abbrev pub ClosesTags : ℕ → List TapeEvent → Type 0
ClosesTags n [] = n ≡ 0
ClosesTags n (TapeEvent.tag kind name xs ∷ es) = ClosesTags (if eqb kind start_kind then suc n else n) es
ClosesTags zero (TapeEvent.close ∷ es) = ⊥
ClosesTags (suc n) (TapeEvent.close ∷ es) = ClosesTags n es

-- "Over 32 attributes are written too, for reading to refuse."
unfoldable pub few_attributes : TapeEvent → Bool
few_attributes (TapeEvent.tag kind name xs) = leb (length xs) attributes_limit
few_attributes TapeEvent.close = true

unfoldable pub attribute_pairs : List AttributePairs → List Pair
attribute_pairs [] = []
attribute_pairs (x ∷ xs) = x.key ∷ x.value ∷ attribute_pairs xs

unfoldable pub event_read : Text → TapeEvent → Event
event_read text (TapeEvent.tag kind name xs) = event_of kind (tag_of text (name ∷ attribute_pairs xs))
event_read text TapeEvent.close = Event.close

unfoldable pub records_read : Text → List TapeEvent → List Judged
records_read text [] = []
records_read text (e ∷ es) = event (event_read text e) ∷ records_read text es

abbrev pub ReadsThrough : ℕ → Reading → Type 0
ReadsThrough open_tags r = ((r.answer.number ≡ accepted) × (r.state.open_tags ≡ open_tags)) ⊎ (too_many_open ≤ r.answer.number)
