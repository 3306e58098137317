-- What an event does, by computation: simple types.
use Rattle.std.specs.Prelude.{◌≡◌, refl, [], ◌∷◌}
use Rattle.xsd_types.specs.Examples.Sheets.{line, no_namespace, counting, filled_sheet, blank}
use Rattle.xsd_parser.specs.Examples.Tapes.{start, empty, close, type_attributes, based, value_attribute, schema, simple_type, reads, read_gives, taped}

-- ---- the base

-- "`restriction` at nesting 1 .. sets the base": nesting after the raise (E4)
restriction-at-1 :
    reads (blank 110 16) (schema ∷ simple_type "S" ∷ start "restriction" (based "xs:b") ∷ [])
    ≡ read_gives 0 3 (filled_sheet 110 16 (line 0 3 5 2 1 1 3 3 0 0 ∷ no_namespace ∷ line 3 0 1 1 4 0 0 0 0 1 ∷ []) "Sxs:b")
unfolding taped
restriction-at-1 = refl

-- not at 2
restriction-at-2 :
    reads (blank 110 16) (schema ∷ simple_type "S" ∷ start "a" [] ∷ start "restriction" (based "b") ∷ [])
    ≡ read_gives 0 4 (filled_sheet 110 16 (line 0 3 1 2 2 1 4 4 0 0 ∷ no_namespace ∷ line 3 0 1 1 0 0 0 0 0 1 ∷ []) "S")
unfolding taped
restriction-at-2 = refl

-- "or empty at any depth": at 0
empty-restriction-at-0 :
    reads (blank 110 16) (schema ∷ simple_type "S" ∷ empty "restriction" (based "b") ∷ [])
    ≡ read_gives 0 3 (filled_sheet 110 16 (line 0 3 2 2 0 1 3 2 0 0 ∷ no_namespace ∷ line 3 0 1 1 1 0 0 0 0 1 ∷ []) "Sb")
unfolding taped
empty-restriction-at-0 = refl

-- at 2
empty-restriction-at-2 :
    reads (blank 110 16) (schema ∷ simple_type "S" ∷ start "a" [] ∷ start "a" [] ∷ empty "restriction" (based "b") ∷ [])
    ≡ read_gives 0 5 (filled_sheet 110 16 (line 0 3 2 2 2 1 5 4 0 0 ∷ no_namespace ∷ line 3 0 1 1 1 0 0 0 0 1 ∷ []) "Sb")
unfolding taped
empty-restriction-at-2 = refl

-- "an absent base .. is empty text": it replaces the one before; the facets stay
absent-base :
    reads (blank 110 16) (schema ∷ simple_type "S" ∷ empty "restriction" (based "b") ∷ empty "pattern" (value_attribute "p")
    ∷ start "restriction" [] ∷ [])
    ≡ read_gives 0 5 (filled_sheet 110 16 (line 0 4 2 2 1 1 5 3 0 0 ∷ no_namespace ∷ line 3 0 1 1 0 0 0 0 0 1 ∷ line 5 1 1 0 0 0 0 0 0 0 ∷ []) "Sp")
unfolding taped
absent-base = refl

-- other tags set no base
other-base :
    reads (blank 110 16) (schema ∷ simple_type "S" ∷ start "extension" (based "b") ∷ empty "list" (based "b") ∷ [])
    ≡ read_gives 0 4 (filled_sheet 110 16 (line 0 3 1 2 1 1 4 3 0 0 ∷ no_namespace ∷ line 3 0 1 1 0 0 0 0 0 1 ∷ []) "S")
unfolding taped
other-base = refl

-- ---- facets

-- all eight, directly under the type (E8)
all-facets :
    reads (blank 110 16) (schema ∷ simple_type "S" ∷ empty "enumeration" (value_attribute "v") ∷ empty "pattern" (value_attribute "p")
    ∷ empty "minLength" (value_attribute "1") ∷ empty "maxLength" (value_attribute "2") ∷ empty "minInclusive" (value_attribute "3")
    ∷ empty "maxInclusive" (value_attribute "4") ∷ empty "totalDigits" (value_attribute "5") ∷ empty "fractionDigits" (value_attribute "6") ∷ [])
    ≡ read_gives 0 10 (filled_sheet 110 16 (line 0 11 5 2 0 1 10 2 0 0 ∷ no_namespace ∷ line 3 0 1 1 0 0 0 0 0 1 ∷ line 4 1 1 0 0 0 0 0 0 0
    ∷ line 5 2 1 0 0 0 0 0 0 0 ∷ line 6 0 0 0 0 0 0 1 0 0 ∷ line 7 0 0 0 0 0 0 2 0 0 ∷ line 8 3 1 0 0 0 0 0 0 0 ∷ line 9 4 1 0 0 0 0 0 0 0
    ∷ line 10 0 0 0 0 0 0 5 0 0 ∷ line 11 0 0 0 0 0 0 6 0 0 ∷ []) "Svp34")
unfolding taped
all-facets = refl

-- "Empty facets count at any depth"
deep-facet :
    reads (blank 110 16) (schema ∷ simple_type "S" ∷ start "a" [] ∷ start "a" [] ∷ start "a" []
    ∷ empty "xs:enumeration" (("xs:value", "v") ∷ []) ∷ [])
    ≡ read_gives 0 6 (filled_sheet 110 16 (line 0 4 2 2 3 1 6 5 0 0 ∷ no_namespace ∷ line 3 0 1 1 0 0 0 0 0 1 ∷ line 4 1 1 0 0 0 0 0 0 0 ∷ []) "Sv")
unfolding taped
deep-facet = refl

-- "started facets do not"
started-facet :
    reads (blank 110 16) (schema ∷ simple_type "S" ∷ start "enumeration" (value_attribute "v") ∷ close ∷ [])
    ≡ read_gives 0 4 (filled_sheet 110 16 (line 0 3 1 2 0 1 4 2 0 0 ∷ no_namespace ∷ line 3 0 1 1 0 0 0 0 0 1 ∷ []) "S")
unfolding taped
started-facet = refl

-- "an absent .. facet value is empty text": a used pair at the end of the one before (S2)
absent-value :
    reads (blank 110 16) (schema ∷ simple_type "S" ∷ empty "enumeration" [] ∷ [])
    ≡ read_gives 0 3 (filled_sheet 110 16 (line 0 4 1 2 0 1 3 2 0 0 ∷ no_namespace ∷ line 3 0 1 1 0 0 0 0 0 1 ∷ line 4 1 0 0 0 0 0 0 0 0 ∷ []) "S")
unfolding taped
absent-value = refl

-- a value that is no number is kept under minInclusive
inclusive-text :
    reads (blank 110 16) (schema ∷ simple_type "S" ∷ empty "minInclusive" (value_attribute "x") ∷ [])
    ≡ read_gives 0 3 (filled_sheet 110 16 (line 0 4 2 2 0 1 3 2 0 0 ∷ no_namespace ∷ line 3 0 1 1 0 0 0 0 0 1 ∷ line 8 1 1 0 0 0 0 0 0 0 ∷ []) "Sx")
unfolding taped
inclusive-text = refl

-- a base set behind facets moves their values
base-behind-facet :
    reads (blank 110 16) (schema ∷ simple_type "S" ∷ empty "enumeration" (value_attribute "v") ∷ empty "restriction" (based "ab") ∷ [])
    ≡ read_gives 0 4 (filled_sheet 110 16 (line 0 4 4 2 0 1 4 2 0 0 ∷ no_namespace ∷ line 3 0 1 1 2 0 0 0 0 1 ∷ line 4 3 1 0 0 0 0 0 0 0 ∷ []) "Sabv")
unfolding taped
base-behind-facet = refl

-- ---- closes

-- "A close lowers nesting"
close-lowers :
    reads (blank 110 16) (schema ∷ simple_type "S" ∷ start "restriction" (based "b") ∷ close ∷ [])
    ≡ read_gives 0 4 (filled_sheet 110 16 (line 0 3 2 2 0 1 4 2 0 0 ∷ no_namespace ∷ line 3 0 1 1 1 0 0 0 0 1 ∷ []) "Sb")
unfolding taped
close-lowers = refl

-- "or at 0 finishes the type .. and returns to context 1"
close-finishes :
    reads (blank 110 16) (schema ∷ simple_type "S" ∷ start "restriction" (based "b") ∷ close ∷ close ∷ [])
    ≡ read_gives 0 5 (filled_sheet 110 16 (line 0 3 2 1 0 1 5 1 0 0 ∷ counting 1 ∷ line 3 0 1 1 1 0 0 0 0 1 ∷ []) "Sb")
unfolding taped
close-finishes = refl

-- two types of one name are two
same_name :
    reads (blank 110 16) (schema ∷ simple_type "S" ∷ close ∷ simple_type "S" ∷ close ∷ [])
    ≡ read_gives 0 5 (filled_sheet 110 16 (line 0 4 2 1 0 1 5 1 0 0 ∷ counting 2 ∷ line 3 0 1 1 0 0 0 0 0 1 ∷ line 3 1 1 2 0 0 0 0 0 3 ∷ []) "SS")
unfolding taped
same_name = refl

-- inside a simple type nothing is an element, a content or a schema
other-tags :
    reads (blank 110 16) (schema ∷ simple_type "S" ∷ empty "element" (type_attributes "D" "T") ∷ empty "any" [] ∷ start "sequence" []
    ∷ start "schema" (("targetNamespace", "n") ∷ []) ∷ [])
    ≡ read_gives 0 6 (filled_sheet 110 16 (line 0 3 1 2 2 1 6 4 0 0 ∷ no_namespace ∷ line 3 0 1 1 0 0 0 0 0 1 ∷ []) "S")
unfolding taped
other-tags = refl
