-- The direct children of a schema by computation, and the two choices beside each other.
--     children tags    the direct children by the walk over the tags
--     types_only tags   directly below the schema nothing is started but types
use Rattle.std.specs.Prelude.{◌≡◌, refl, Bool, true, false, List, [], ◌∷◌}
use Rattle.text.specs.Text.{bytes}
use Rattle.xsd_types.specs.Choice.{sheet_chosen}
use Rattle.xsd_types.specs.Examples.Sheets.{blank, blank_by}
use Rattle.xsd_parser.specs.Tape.{records}
use Rattle.xsd_parser.specs.Children.{ChildHead, direct_children, only_types}
use Rattle.xsd_parser.specs.Examples.Tapes.{Tag, start, empty, close, name_attribute, type_attributes, schema, simple_type, complex_type, text_of, tags_marks, reads, taped}

children : List Tag → List ChildHead
children ts = direct_children (records (text_of ts) (tags_marks 0 ts))

types_only : List Tag → Bool
types_only ts = only_types (records (text_of ts) (tags_marks 0 ts))

-- behind an annotation, and an element with name and type that is started
some-children :
    children (schema ∷ start "annotation" [] ∷ close ∷ simple_type "A" ∷ close ∷ start "element" (type_attributes "r" "A") ∷ close ∷ complex_type "B" ∷ [])
    ≡ ChildHead.simple_type (bytes "A") ∷ ChildHead.element (bytes "r") (bytes "A") ∷ ChildHead.complex_type (bytes "B") ∷ []
unfolding children taped
some-children = refl

-- none outside the schema, below its children, without a type, or as an empty type
no-children :
    children (empty "element" (type_attributes "a" "t") ∷ schema ∷ start "redefine" [] ∷ simple_type "A" ∷ close ∷ empty "element" (type_attributes "b" "t") ∷ close
    ∷ empty "element" (name_attribute "c") ∷ empty "simpleType" (name_attribute "B") ∷ close ∷ empty "element" (type_attributes "d" "t") ∷ [])
    ≡ []
unfolding children taped
no-children = refl

-- the inner `schema` is a child like any other; a second one behind the first has children again
two-schemas :
    children (schema ∷ schema ∷ empty "element" (type_attributes "a" "t") ∷ close ∷ close ∷ schema ∷ empty "element" (type_attributes "b" "t") ∷ [])
    ≡ ChildHead.element (bytes "b") (bytes "t") ∷ []
unfolding children taped
two-schemas = refl

-- a schema as ISO 20022 writes them: both choices give the same sheet but for the last number
plain : List Tag
plain = schema ∷ empty "element" (type_attributes "D" "T") ∷ complex_type "T" ∷ start "sequence" [] ∷ close ∷ close ∷ close ∷ []

plain-types : types_only plain ≡ true
unfolding plain types_only taped
plain-types = refl

plain-both : (reads (blank_by 1 40 6) plain).sheet ≡ sheet_chosen true (reads (blank 40 6) plain).sheet
unfolding plain taped
plain-both = refl

annotation-types : types_only (schema ∷ start "annotation" [] ∷ []) ≡ false
unfolding types_only taped
annotation-types = refl
