-- Order 8 (and the law of order 1 that a written tag is read as that tag): a tag as a writer spells it.
--     is_name_text         the text is a Name; is_value: it may stand between the quotes
--     quote_of            the quote of a value: order 8's "quotes double unless the value has one"
--     written_attribute_ok        key and value may be written; new_keys: no key is among those before it
--     written_attributes  the attributes, one space before each; tag_end: the end of a start or an empty tag; written_tag: the tag
--     attribute_places    the pairs of written attributes that stand at an offset
--     written_event       the event of a tag written at an offset; tagged_as: what it is read as, with what stands behind it
use Rattle.std.specs.Prelude.{ℕ, ◌+◌, List, [], ◌∷◌, ◌++◌, Bool, true, not, ◌&&◌, eqb, length, if◌then◌else◌}
use Prim.Native.Char.{code}
use Rattle.text.specs.Text.{Text, bytes, same, contains}
use Rattle.xsd_parser.specs.Kinds.{start_kind}
use Rattle.xsd_parser.specs.Event.{Attr, Tag}
use Rattle.xml.specs.Classes.{is_name_start, begins}
use Rattle.xml.specs.Steps.{leading_name}
use Rattle.xml.specs.Values.{starts_character}
use Rattle.xsd_parser.specs.Tape.{Pair}
use Rattle.xml.specs.Tape.{AttributePairs, TapeEvent}
use Rattle.xml.specs.Grammar.{is_among}
use Rattle.xml.specs.Tags.{Tagged, tagged}

-- [5] Name ::= NameStartChar (NameChar)*
unfoldable pub is_name_text : Text → Bool
is_name_text s = begins is_name_start s && same (leading_name s) s

-- "([^<&"] | Reference)*", or with the other quote
unfoldable pub is_value : ℕ → Text → Bool
is_value quote [] = true
is_value quote (b ∷ s) = not (eqb b quote) && not (eqb b (code "<")) && starts_character (b ∷ s) && is_value quote s

unfoldable pub quote_of : Text → ℕ
quote_of v = if contains 34 v then 39 else 34

unfoldable pub written_attribute_ok : Attr → Bool
written_attribute_ok x = is_name_text x.key && is_value (quote_of x.value) x.value

-- "Unique Att Spec"
unfoldable pub new_keys : List Text → List Attr → Bool
new_keys keys [] = true
new_keys keys (x ∷ xs) = not (is_among x.key keys) && new_keys (x.key ∷ keys) xs

unfoldable pub written_attributes : List Attr → Text
written_attributes [] = []
written_attributes (x ∷ xs) =
    code " " ∷ (x.key ++ (code "=" ∷ quote_of x.value ∷ (x.value ++ (quote_of x.value ∷ written_attributes xs))))

unfoldable pub tag_end : ℕ → Text
tag_end kind = if eqb kind start_kind then bytes ">" else bytes "/>"

unfoldable pub written_tag : ℕ → Tag → Text
written_tag kind t = code "<" ∷ (t.name ++ (written_attributes t.attributes ++ tag_end kind))

unfoldable pub attribute_places : ℕ → List Attr → List AttributePairs
attribute_places at [] = []
attribute_places at (x ∷ xs) =
    record {
      key = record { offset = at + 1; size = length x.key };
      value = record { offset = at + length x.key + 3; size = length x.value };
    } ∷ attribute_places (at + length x.key + length x.value + 4) xs

abbrev pub name_place : ℕ → Tag → Pair
name_place at t = record { offset = at + 1; size = length t.name }

abbrev pub tag_places : ℕ → Tag → List AttributePairs
tag_places at t = attribute_places (at + 1 + length t.name) t.attributes

abbrev pub written_event : ℕ → ℕ → Tag → TapeEvent
written_event at kind t = TapeEvent.tag kind (name_place at t) (tag_places at t)

abbrev pub tagged_as : ℕ → ℕ → Tag → Text → Tagged
tagged_as at kind t rest = tagged kind (name_place at t) (tag_places at t) t.name (at + length (written_tag kind t)) rest
