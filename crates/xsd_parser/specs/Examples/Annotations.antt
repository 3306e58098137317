-- Order 3, "An annotation must not end the schema", by computation: what clearing with choice 1 changes, beside choice 0.
use Rattle.std.specs.Prelude.{◌≡◌, refl, List, [], ◌∷◌}
use Rattle.xsd_types.specs.Examples.Sheets.{line, no_namespace, counting, filled_sheet, blank, blank_by}
use Rattle.xsd_parser.specs.Examples.Tapes.{Tag, start, empty, close, name_attribute, type_attributes, based, value_attribute, schema, simple_type, complex_type, reads, read_gives, taped}

-- ---- annotations at the top and below an element

annotated : List Tag
annotated =
    start "schema" (("targetNamespace", "N") ∷ []) ∷ start "annotation" [] ∷ start "documentation" [] ∷ close ∷ close
    ∷ simple_type "A" ∷ empty "restriction" (based "string") ∷ close
    ∷ start "element" (type_attributes "r" "A") ∷ start "annotation" [] ∷ close ∷ close
    ∷ simple_type "B" ∷ empty "restriction" (based "string") ∷ close ∷ close ∷ []

-- "the schema ends at its own tag"
annotated-standard :
    reads (blank_by 1 60 20) annotated
    ≡ read_gives 0 16 (filled_sheet 60 20 (line 0 5 17 0 0 1 16 0 0 1 ∷ line 1 0 1 0 0 0 0 0 0 0 ∷ line 3 1 1 2 6 0 0 0 0 5
    ∷ line 2 8 1 9 1 0 0 0 0 8 ∷ line 3 10 1 11 6 0 0 0 0 12 ∷ []) "NAstringrABstring")
unfolding annotated taped
annotated-standard = refl

-- "0 as before": the first close ends it
annotated-original :
    reads (blank 60 20) annotated ≡ read_gives 0 16 (filled_sheet 60 20 (line 0 2 1 0 0 1 16 0 0 0 ∷ line 1 0 1 0 0 0 0 0 0 0 ∷ []) "N")
unfolding annotated taped
annotated-original = refl

-- ---- "a nameless type under an element is passed over without 9"

nameless : List Tag
nameless = schema ∷ start "element" (name_attribute "r") ∷ start "complexType" [] ∷ close ∷ close ∷ empty "element" (type_attributes "b" "t") ∷ []

nameless-standard :
    reads (blank_by 1 40 9) nameless ≡ read_gives 0 6 (filled_sheet 40 9 (line 0 3 2 1 0 1 6 1 0 1 ∷ no_namespace ∷ line 2 0 1 1 1 0 0 0 0 5 ∷ []) "bt")
unfolding nameless taped
nameless-standard = refl

nameless-original : reads (blank 40 9) nameless ≡ read_gives 9 2 (filled_sheet 40 9 (line 0 2 0 1 0 1 2 2 0 0 ∷ no_namespace ∷ []) "")
unfolding nameless taped
nameless-original = refl

-- a nameless direct child is refused by both, and nesting stays
direct-standard : reads (blank_by 1 40 9) (schema ∷ start "complexType" [] ∷ []) ≡ read_gives 9 1 (filled_sheet 40 9 (line 0 2 0 1 0 1 1 1 0 1 ∷ no_namespace ∷ []) "")
unfolding taped
direct-standard = refl

direct-original : reads (blank 40 9) (schema ∷ start "complexType" [] ∷ []) ≡ read_gives 9 1 (filled_sheet 40 9 (line 0 2 0 1 0 1 1 1 0 0 ∷ no_namespace ∷ []) "")
unfolding taped
direct-original = refl

-- under any tag below the schema
under-foo : List Tag
under-foo = schema ∷ start "foo" [] ∷ start "complexType" [] ∷ []

under-foo-standard : reads (blank_by 1 40 9) under-foo ≡ read_gives 0 3 (filled_sheet 40 9 (line 0 2 0 1 2 1 3 3 0 1 ∷ no_namespace ∷ []) "")
unfolding under-foo taped
under-foo-standard = refl

under-foo-original : reads (blank 40 9) under-foo ≡ read_gives 9 2 (filled_sheet 40 9 (line 0 2 0 1 0 1 2 2 0 0 ∷ no_namespace ∷ []) "")
unfolding under-foo taped
under-foo-original = refl

-- ---- "only its direct children become elements or types"

-- a started element is kept and counted
started-element :
    reads (blank_by 1 40 9) (schema ∷ start "element" (type_attributes "r" "t") ∷ [])
    ≡ read_gives 0 2 (filled_sheet 40 9 (line 0 3 2 1 1 1 2 2 0 1 ∷ no_namespace ∷ line 2 0 1 1 1 0 0 0 0 1 ∷ []) "rt")
unfolding taped
started-element = refl

-- below it named types and elements are passed over, and nothing is parsed
passed_over :
    reads (blank_by 1 40 9) (schema ∷ start "annotation" [] ∷ empty "minLength" (value_attribute "x") ∷ empty "element" (type_attributes "r" "t")
    ∷ simple_type "S" ∷ complex_type "C" ∷ start "element" (type_attributes "r" "t") ∷ [])
    ≡ read_gives 0 7 (filled_sheet 40 9 (line 0 2 0 1 4 1 7 5 0 1 ∷ no_namespace ∷ []) "")
unfolding taped
passed_over = refl

-- an empty tag is not counted
empty-tags :
    reads (blank_by 1 40 9) (schema ∷ empty "annotation" [] ∷ empty "complexType" [] ∷ empty "element" (type_attributes "r" "t") ∷ [])
    ≡ read_gives 0 4 (filled_sheet 40 9 (line 0 3 2 1 0 1 4 1 0 1 ∷ no_namespace ∷ line 2 0 1 1 1 0 0 0 0 3 ∷ []) "rt")
unfolding taped
empty-tags = refl

-- the start of a type counts from the type, and its close leads back to nesting 0
type-standard :
    reads (blank_by 1 40 9) (schema ∷ simple_type "S" ∷ start "annotation" [] ∷ close ∷ close ∷ [])
    ≡ read_gives 0 5 (filled_sheet 40 9 (line 0 3 1 1 0 1 5 1 0 1 ∷ counting 1 ∷ line 3 0 1 1 0 0 0 0 0 1 ∷ []) "S")
unfolding taped
type-standard = refl

-- `schema` below the schema is an unknown tag, counted, and the namespace stays
schema-below :
    reads (blank_by 1 40 9) (start "schema" (("targetNamespace", "N") ∷ []) ∷ start "schema" (("targetNamespace", "M") ∷ []) ∷ [])
    ≡ read_gives 0 2 (filled_sheet 40 9 (line 0 2 1 1 1 1 2 2 0 1 ∷ line 1 0 1 0 0 0 0 0 0 0 ∷ []) "N")
unfolding taped
schema-below = refl

-- ---- "a close at 0 ends it"

-- however many tags are open
around :
    reads (blank_by 1 40 9) (start "x" [] ∷ schema ∷ close ∷ empty "element" (type_attributes "b" "t") ∷ [])
    ≡ read_gives 0 4 (filled_sheet 40 9 (line 0 2 0 0 0 1 4 1 0 1 ∷ no_namespace ∷ []) "")
unfolding taped
around = refl

-- a second schema is read as with choice 0
second-schema :
    reads (blank_by 1 40 9) (start "schema" (("targetNamespace", "N") ∷ []) ∷ empty "element" (type_attributes "r" "t") ∷ close ∷ schema ∷ [])
    ≡ read_gives 0 4 (filled_sheet 40 9 (line 0 3 2 1 0 1 4 1 0 1 ∷ no_namespace ∷ line 2 0 1 1 1 0 0 0 0 1 ∷ []) "rt")
unfolding taped
second-schema = refl

-- from any good sheet: nesting 3 is lowered to 2, 1 and 0, and the fourth close ends the schema
three_closes :
    reads (filled_sheet 20 0 (line 0 2 0 1 3 1 9 200 0 1 ∷ no_namespace ∷ []) "") (close ∷ close ∷ close ∷ [])
    ≡ read_gives 0 3 (filled_sheet 20 0 (line 0 2 0 1 0 1 12 197 0 1 ∷ no_namespace ∷ []) "")
unfolding taped
three_closes = refl

fourth-close :
    reads (filled_sheet 20 0 (line 0 2 0 1 3 1 9 200 0 1 ∷ no_namespace ∷ []) "") (close ∷ close ∷ close ∷ close ∷ [])
    ≡ read_gives 0 4 (filled_sheet 20 0 (line 0 2 0 0 0 1 13 196 0 1 ∷ no_namespace ∷ []) "")
unfolding taped
fourth-close = refl

-- the deepest nesting is 254; one more start is 7
deepest :
    reads (filled_sheet 20 0 (line 0 2 0 1 253 1 9 254 0 1 ∷ no_namespace ∷ []) "") (start "x" [] ∷ start "x" [] ∷ [])
    ≡ read_gives 7 1 (filled_sheet 20 0 (line 0 2 0 1 254 1 10 255 0 1 ∷ no_namespace ∷ []) "")
unfolding taped
deepest = refl

-- ---- the choice

-- "a good sheet has one of the two there": 2 is no good sheet
choice-2 :
    reads (filled_sheet 20 0 (line 0 2 0 1 0 1 0 1 0 2 ∷ no_namespace ∷ []) "") (close ∷ [])
    ≡ read_gives 2 0 (filled_sheet 20 0 (line 0 2 0 1 0 1 0 1 0 2 ∷ no_namespace ∷ []) "")
unfolding taped
choice-2 = refl

-- a sheet stored earlier reads on with choice 0
stored :
    reads (filled_sheet 20 0 (line 0 2 0 1 0 1 1 1 0 0 ∷ no_namespace ∷ []) "") (start "annotation" [] ∷ close ∷ [])
    ≡ read_gives 0 2 (filled_sheet 20 0 (line 0 2 0 0 0 1 3 1 0 0 ∷ no_namespace ∷ []) "")
unfolding taped
stored = refl
