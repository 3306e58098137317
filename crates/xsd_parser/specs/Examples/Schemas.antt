-- What an event does, by computation: contexts 0 and 1, and pieces.
use Rattle.std.specs.Prelude.{◌≡◌, refl, [], ◌∷◌}
use Rattle.xsd_types.specs.Examples.Sheets.{line, no_namespace, counting, filled_sheet, blank}
use Rattle.xsd_parser.specs.Examples.Tapes.{start, empty, close, name_attribute, type_attributes, schema, simple_type, reads, read_gives, taped}

-- ---- context 0

-- "a start or empty `schema` sets root seen and the namespace"; "only a start enters context 1"
start-schema :
    reads (blank 50 12) (start "schema" (("targetNamespace", "ns") ∷ []) ∷ [])
    ≡ read_gives 0 1 (filled_sheet 50 12 (line 0 2 2 1 0 1 1 1 0 0 ∷ line 1 0 2 0 0 0 0 0 0 0 ∷ []) "ns")
unfolding taped
start-schema = refl

-- an empty one stays in context 0: the element is lost
empty-schema :
    reads (blank 50 12) (empty "schema" (("targetNamespace", "ns") ∷ []) ∷ empty "element" (type_attributes "D" "T") ∷ [])
    ≡ read_gives 0 2 (filled_sheet 50 12 (line 0 2 2 0 0 1 2 0 0 0 ∷ line 1 0 2 0 0 0 0 0 0 0 ∷ []) "ns")
unfolding taped
empty-schema = refl

-- any other tag is passed over
no-schema :
    reads (blank 50 12) (start "simpleType" [] ∷ empty "element" (type_attributes "D" "T") ∷ close ∷ [])
    ≡ read_gives 0 3 (filled_sheet 50 12 (line 0 2 0 0 0 0 3 0 0 0 ∷ no_namespace ∷ []) "")
unfolding taped
no-schema = refl

-- "Tag names and attribute keys are compared after their last colon" (T9)
last-colon :
    reads (blank 50 12) (start "a:b:schema" (("x:targetNamespace", "a:b") ∷ []) ∷ [])
    ≡ read_gives 0 1 (filled_sheet 50 12 (line 0 2 3 1 0 1 1 1 0 0 ∷ line 1 0 3 0 0 0 0 0 0 0 ∷ []) "a:b")
unfolding taped
last-colon = refl

-- `:schema` too (T9)
colon-first : reads (blank 50 12) (start ":schema" [] ∷ []) ≡ read_gives 0 1 (filled_sheet 50 12 (line 0 2 0 1 0 1 1 1 0 0 ∷ no_namespace ∷ []) "")
unfolding taped
colon-first = refl

-- `schema:` has the empty local word, and case counts
other-words :
    reads (blank 50 12) (start "schema:" [] ∷ start "Schema" [] ∷ start "xschema" [] ∷ [])
    ≡ read_gives 0 3 (filled_sheet 50 12 (line 0 2 0 0 0 0 3 3 0 0 ∷ no_namespace ∷ []) "")
unfolding taped
other-words = refl

-- "Lookup takes the first attribute whose key matches" (T8)
first-attribute :
    reads (blank 50 12) (start "schema" (("x:targetNamespace", "a") ∷ ("targetNamespace", "b") ∷ []) ∷ [])
    ≡ read_gives 0 1 (filled_sheet 50 12 (line 0 2 1 1 0 1 1 1 0 0 ∷ line 1 0 1 0 0 0 0 0 0 0 ∷ []) "a")
unfolding taped
first-attribute = refl

-- ---- context 1

-- "`element`, start or empty, is kept if it has name and type"; values are kept whole (E13)
elements :
    reads (blank 50 12) (schema ∷ empty "xs:element" (("type", "xs:T") ∷ ("name", "D") ∷ []) ∷ start "element" (type_attributes "E" "U") ∷ [])
    ≡ read_gives 0 3 (filled_sheet 50 12 (line 0 4 7 1 0 1 3 2 0 0 ∷ no_namespace ∷ line 2 0 1 1 4 0 0 0 0 1 ∷ line 2 5 1 6 1 0 0 0 0 2 ∷ []) "Dxs:TEU")
unfolding taped
elements = refl

-- not without a type, nor without a name
element-no-type :
    reads (blank 50 12) (schema ∷ empty "element" (name_attribute "D") ∷ empty "element" (("type", "T") ∷ []) ∷ [])
    ≡ read_gives 0 3 (filled_sheet 50 12 (line 0 2 0 1 0 1 3 1 0 0 ∷ no_namespace ∷ []) "")
unfolding taped
element-no-type = refl

-- with an empty name and an empty type (S2)
element-empty :
    reads (blank 50 12) (start "schema" (("targetNamespace", "ns") ∷ []) ∷ empty "element" (type_attributes "" "") ∷ [])
    ≡ read_gives 0 2 (filled_sheet 50 12 (line 0 3 2 1 0 1 2 1 0 0 ∷ line 1 0 2 0 0 0 0 0 0 0 ∷ line 2 2 0 2 0 0 0 0 0 1 ∷ []) "ns")
unfolding taped
element-empty = refl

-- `schema` is an unknown tag in context 1 (E12)
schema-in-schema :
    reads (blank 50 12) (start "schema" (("targetNamespace", "ns") ∷ []) ∷ start "schema" (("targetNamespace", "x") ∷ [])
    ∷ empty "schema" [] ∷ [])
    ≡ read_gives 0 3 (filled_sheet 50 12 (line 0 2 2 1 0 1 3 2 0 0 ∷ line 1 0 2 0 0 0 0 0 0 0 ∷ []) "ns")
unfolding taped
schema-in-schema = refl

-- ---- "Any close leads to context 0."

-- to shut out: "Letting a close in context 1 pass". The next type is lost
close-in-1 :
    reads (blank 50 12) (schema ∷ start "annotation" [] ∷ close ∷ simple_type "S" ∷ close ∷ empty "element" (type_attributes "D" "T") ∷ [])
    ≡ read_gives 0 6 (filled_sheet 50 12 (line 0 2 0 0 0 1 6 1 0 0 ∷ no_namespace ∷ []) "")
unfolding taped
close-in-1 = refl

-- a started `element` is kept, and its close ends the schema context (E11)
close-of-element :
    reads (blank 50 12) (schema ∷ start "element" (type_attributes "D" "T") ∷ close ∷ empty "element" (type_attributes "D" "T") ∷ [])
    ≡ read_gives 0 4 (filled_sheet 50 12 (line 0 3 2 0 0 1 4 1 0 0 ∷ no_namespace ∷ line 2 0 1 1 1 0 0 0 0 1 ∷ []) "DT")
unfolding taped
close-of-element = refl

-- then a `schema` at any depth enters context 1 again, the namespace "empty if absent", the items kept (E11)
schema-again :
    reads (blank 50 12) (start "schema" (("targetNamespace", "ns") ∷ []) ∷ empty "element" (type_attributes "D" "T") ∷ start "a" [] ∷ close ∷ schema
    ∷ empty "element" (type_attributes "E" "U") ∷ [])
    ≡ read_gives 0 6 (filled_sheet 50 12 (line 0 4 4 1 0 1 6 2 0 0 ∷ no_namespace ∷ line 2 0 1 1 1 0 0 0 0 1 ∷ line 2 2 1 3 1 0 0 0 0 5 ∷ []) "DTEU")
unfolding taped
schema-again = refl

-- an empty `schema` sets the namespace too
empty-schema-again :
    reads (blank 50 12) (schema ∷ empty "element" (type_attributes "D" "T") ∷ close ∷ empty "schema" (("targetNamespace", "ns") ∷ []) ∷ [])
    ≡ read_gives 0 4 (filled_sheet 50 12 (line 0 3 4 0 0 1 4 0 0 0 ∷ line 1 0 2 0 0 0 0 0 0 0 ∷ line 2 2 1 3 1 0 0 0 0 1 ∷ []) "nsDT")
unfolding taped
empty-schema-again = refl

-- a close in context 0 only closes its tag
close-in-0 : reads (blank 50 12) (start "a" [] ∷ close ∷ []) ≡ read_gives 0 2 (filled_sheet 50 12 (line 0 2 0 0 0 0 2 0 0 0 ∷ no_namespace ∷ []) "")
unfolding taped
close-in-0 = refl

-- the close of a type returns to context 1, so the next type is read
close-of-type :
    reads (blank 50 12) (schema ∷ simple_type "S" ∷ close ∷ simple_type "R" ∷ close ∷ [])
    ≡ read_gives 0 5 (filled_sheet 50 12 (line 0 4 2 1 0 1 5 1 0 0 ∷ counting 2 ∷ line 3 0 1 1 0 0 0 0 0 1 ∷ line 3 1 1 2 0 0 0 0 0 3 ∷ []) "SR")
unfolding taped
close-of-type = refl

-- ---- "a tape may be cut between any events over the same text"

-- in one piece
one_piece :
    reads (blank 50 12) (schema ∷ empty "element" (type_attributes "D" "T") ∷ empty "element" (type_attributes "E" "U") ∷ close ∷ [])
    ≡ read_gives 0 4 (filled_sheet 50 12 (line 0 4 4 0 0 1 4 0 0 0 ∷ no_namespace ∷ line 2 0 1 1 1 0 0 0 0 1 ∷ line 2 2 1 3 1 0 0 0 0 2 ∷ []) "DTEU")
unfolding taped
one_piece = refl

-- in two: the place counts the second piece alone
two-pieces :
    reads (reads (blank 50 12) (schema ∷ empty "element" (type_attributes "D" "T") ∷ [])).sheet (empty "element" (type_attributes "E" "U") ∷ close ∷ [])
    ≡ read_gives 0 2 (filled_sheet 50 12 (line 0 4 4 0 0 1 4 0 0 0 ∷ no_namespace ∷ line 2 0 1 1 1 0 0 0 0 1 ∷ line 2 2 1 3 1 0 0 0 0 2 ∷ []) "DTEU")
unfolding taped
two-pieces = refl

-- the first refused event: "place is the event's number in the piece, from 0"
refused-in-second :
    reads (reads (blank 50 12) (schema ∷ empty "element" (type_attributes "D" "T") ∷ [])).sheet (close ∷ close ∷ [])
    ≡ read_gives 6 1 (filled_sheet 50 12 (line 0 3 2 0 0 1 3 0 0 0 ∷ no_namespace ∷ line 2 0 1 1 1 0 0 0 0 1 ∷ []) "DT")
unfolding taped
refused-in-second = refl

-- "drops the rest of the piece"; the next piece goes on from the state (R6)
piece-after-refusal :
    reads (reads (blank 50 12) (schema ∷ start "simpleType" []
    ∷ empty "element" (type_attributes "D" "T") ∷ [])).sheet (empty "element" (type_attributes "E" "U") ∷ close ∷ [])
    ≡ read_gives 0 2 (filled_sheet 50 12 (line 0 3 2 0 0 1 3 0 0 0 ∷ no_namespace ∷ line 2 0 1 1 1 0 0 0 0 1 ∷ []) "EU")
unfolding taped
piece-after-refusal = refl
