-- Reading by computation: the numbers 9 and 10, and the values that pass.
use Rattle.std.specs.Prelude.{◌≡◌, refl, [], ◌∷◌}
use Rattle.sheet.specs.Rows.{Sheet}
use Rattle.xsd_types.specs.Examples.Sheets.{line, no_namespace, filled_sheet, blank}
use Rattle.xsd_parser.specs.Examples.Tapes.{start, empty, name_attribute, type_attributes, value_attribute, schema, simple_type, reads, read_gives, taped}

-- ---- 9: `MissingAttribute`

-- "start `simpleType` .. needs a name"; the refused start is no event and opens no tag (E1)
simple-type-no-name :
    reads (blank 30 1) (schema ∷ start "simpleType" [] ∷ [])
    ≡ read_gives 9 1 (filled_sheet 30 1 (line 0 2 0 1 0 1 1 1 0 0 ∷ no_namespace ∷ []) "")
unfolding taped
simple-type-no-name = refl

-- "or `complexType`"
complex-type-no-name :
    reads (blank 30 1) (schema ∷ start "complexType" [] ∷ [])
    ≡ read_gives 9 1 (filled_sheet 30 1 (line 0 2 0 1 0 1 1 1 0 0 ∷ no_namespace ∷ []) "")
unfolding taped
complex-type-no-name = refl

-- "as empty tags they are skipped" (E10)
empty-types :
    reads (blank 30 1) (schema ∷ empty "simpleType" [] ∷ empty "complexType" [] ∷ [])
    ≡ read_gives 0 3 (filled_sheet 30 1 (line 0 2 0 1 0 1 3 1 0 0 ∷ no_namespace ∷ []) "")
unfolding taped
empty-types = refl

-- with a name too
empty-type-named :
    reads (blank 30 1) (schema ∷ empty "simpleType" (name_attribute "S") ∷ [])
    ≡ read_gives 0 2 (filled_sheet 30 1 (line 0 2 0 1 0 1 2 1 0 0 ∷ no_namespace ∷ []) "")
unfolding taped
empty-type-named = refl

-- the empty text is a name (E10)
empty_name :
    reads (blank 30 1) (schema ∷ simple_type "" ∷ [])
    ≡ read_gives 0 2 (filled_sheet 30 1 (line 0 3 0 2 0 1 2 2 0 0 ∷ no_namespace ∷ line 3 0 0 0 0 0 0 0 0 1 ∷ []) "")
unfolding taped
empty_name = refl

-- "`xmlns:name` counts as `name`": the first matching key wins (T9)
xmlns-name :
    reads (blank 30 1) (schema ∷ start "complexType" (("xmlns:name", "x") ∷ ("name", "y") ∷ []) ∷ [])
    ≡ read_gives 0 2 (filled_sheet 30 1 (line 0 3 1 3 0 1 2 2 0 0 ∷ no_namespace ∷ line 16 0 1 0 0 0 0 0 0 1 ∷ []) "x")
unfolding taped
xmlns-name = refl

-- a key `name:` has the empty local word (T9)
key-ends-in-colon :
    reads (blank 30 1) (schema ∷ start "simpleType" (("name:", "S") ∷ []) ∷ [])
    ≡ read_gives 9 1 (filled_sheet 30 1 (line 0 2 0 1 0 1 1 1 0 0 ∷ no_namespace ∷ []) "")
unfolding taped
key-ends-in-colon = refl

-- in context 0 no name is needed
no-schema : reads (blank 30 1) (start "simpleType" [] ∷ []) ≡ read_gives 0 1 (filled_sheet 30 1 (line 0 2 0 0 0 0 1 1 0 0 ∷ no_namespace ∷ []) "")
unfolding taped
no-schema = refl

-- nor inside a type, where the start only raises nesting
type-in-type :
    reads (blank 30 1) (schema ∷ simple_type "S" ∷ start "simpleType" [] ∷ [])
    ≡ read_gives 0 3 (filled_sheet 30 1 (line 0 3 1 2 1 1 3 3 0 0 ∷ no_namespace ∷ line 3 0 1 1 0 0 0 0 0 1 ∷ []) "S")
unfolding taped
type-in-type = refl

-- ---- 10: `InvalidAttributeValue`, facets

-- an open simple type, with room for a facet
in_simple_type : Sheet
in_simple_type = filled_sheet 40 1 (line 0 3 1 2 0 1 2 2 0 0 ∷ no_namespace ∷ line 3 0 1 1 0 0 0 0 0 0 ∷ []) "S"

-- no number
not-a-number : reads in_simple_type (empty "minLength" (value_attribute "x") ∷ []) ≡ read_gives 10 0 in_simple_type
unfolding in_simple_type taped
not-a-number = refl

-- "an absent base or facet value is empty text", and that gives 10 (E7)
absent-value : reads in_simple_type (empty "minLength" [] ∷ []) ≡ read_gives 10 0 in_simple_type
unfolding in_simple_type taped
absent-value = refl

-- "empty, `+` .. give 10"
empty-value : reads in_simple_type (empty "minLength" (value_attribute "") ∷ []) ≡ read_gives 10 0 in_simple_type
unfolding in_simple_type taped
empty-value = refl

plus-alone : reads in_simple_type (empty "maxLength" (value_attribute "+") ∷ []) ≡ read_gives 10 0 in_simple_type
unfolding in_simple_type taped
plus-alone = refl

-- order 2: "The specimens ` 7` and `-0` in paper 01 become accepted"
minus-zero :
    reads in_simple_type (empty "totalDigits" (value_attribute "-0") ∷ [])
    ≡ read_gives 0 1 (filled_sheet 40 1 (line 0 4 1 2 0 1 3 2 0 0 ∷ no_namespace ∷ line 3 0 1 1 0 0 0 0 0 0 ∷ line 10 0 0 0 0 0 0 0 0 0 ∷ []) "S")
unfolding in_simple_type taped
minus-zero = refl

leading-space :
    reads in_simple_type (empty "fractionDigits" (value_attribute " 7") ∷ [])
    ≡ read_gives 0 1 (filled_sheet 40 1 (line 0 4 1 2 0 1 3 2 0 0 ∷ no_namespace ∷ line 3 0 1 1 0 0 0 0 0 0 ∷ line 11 0 0 0 0 0 0 7 0 0 ∷ []) "S")
unfolding in_simple_type taped
leading-space = refl

-- "A licensee's generator writes ` 35 `", at the width of a length
space-around :
    reads in_simple_type (empty "maxLength" (value_attribute " 35 ") ∷ [])
    ≡ read_gives 0 1 (filled_sheet 40 1 (line 0 4 1 2 0 1 3 2 0 0 ∷ no_namespace ∷ line 3 0 1 1 0 0 0 0 0 0 ∷ line 7 0 0 0 0 0 0 35 0 0 ∷ []) "S")
unfolding in_simple_type taped
space-around = refl

-- "a minus only before zeros", and no white space behind a sign
minus_one : reads in_simple_type (empty "minLength" (value_attribute "-01") ∷ []) ≡ read_gives 10 0 in_simple_type
unfolding in_simple_type taped
minus_one = refl

space-behind-sign : reads in_simple_type (empty "minLength" (value_attribute "- 0") ∷ []) ≡ read_gives 10 0 in_simple_type
unfolding in_simple_type taped
space-behind-sign = refl

-- a reference stays raw: its bytes are no white space
raw-reference : reads in_simple_type (empty "minLength" (value_attribute "&#32;7") ∷ []) ≡ read_gives 10 0 in_simple_type
unfolding in_simple_type taped
raw-reference = refl

-- a sign twice, a sign behind (E15)
two-signs : reads in_simple_type (empty "minLength" (value_attribute "++1") ∷ []) ≡ read_gives 10 0 in_simple_type
unfolding in_simple_type taped
two-signs = refl

sign-behind : reads in_simple_type (empty "minLength" (value_attribute "1+") ∷ []) ≡ read_gives 10 0 in_simple_type
unfolding in_simple_type taped
sign-behind = refl

-- other ways to write numbers (E15)
underscore : reads in_simple_type (empty "minLength" (value_attribute "1_0") ∷ []) ≡ read_gives 10 0 in_simple_type
unfolding in_simple_type taped
underscore = refl

hexadecimal : reads in_simple_type (empty "minLength" (value_attribute "0x1") ∷ []) ≡ read_gives 10 0 in_simple_type
unfolding in_simple_type taped
hexadecimal = refl

-- leading zeros without limit (E15)
many-zeros :
    reads in_simple_type (empty "minLength" (value_attribute "+000000000000000000000000012") ∷ [])
    ≡ read_gives 0 1 (filled_sheet 40 1 (line 0 4 1 2 0 1 3 2 0 0 ∷ no_namespace ∷ line 3 0 1 1 0 0 0 0 0 0 ∷ line 6 0 0 0 0 0 0 12 0 0 ∷ []) "S")
unfolding in_simple_type taped
many-zeros = refl

-- "`+7` is 7"
plus-seven :
    reads in_simple_type (empty "minLength" (value_attribute "+7") ∷ [])
    ≡ read_gives 0 1 (filled_sheet 40 1 (line 0 4 1 2 0 1 3 2 0 0 ∷ no_namespace ∷ line 3 0 1 1 0 0 0 0 0 0 ∷ line 6 0 0 0 0 0 0 7 0 0 ∷ []) "S")
unfolding in_simple_type taped
plus-seven = refl

-- "`007` is 7"
leading_zeros :
    reads in_simple_type (empty "totalDigits" (value_attribute "007") ∷ [])
    ≡ read_gives 0 1 (filled_sheet 40 1 (line 0 4 1 2 0 1 3 2 0 0 ∷ no_namespace ∷ line 3 0 1 1 0 0 0 0 0 0 ∷ line 10 0 0 0 0 0 0 7 0 0 ∷ []) "S")
unfolding in_simple_type taped
leading_zeros = refl

-- "For u32, 4294967295 passes"
u32-highest :
    reads in_simple_type (empty "totalDigits" (value_attribute "4294967295") ∷ [])
    ≡ read_gives 0 1 (filled_sheet 40 1 (line 0 4 1 2 0 1 3 2 0 0 ∷ no_namespace ∷ line 3 0 1 1 0 0 0 0 0 0
    ∷ line 10 0 0 0 0 0 0 4294967295 0 0 ∷ []) "S")
unfolding in_simple_type taped
u32-highest = refl

-- "and 4294967296 gives 10"
u32-past : reads in_simple_type (empty "totalDigits" (value_attribute "4294967296") ∷ []) ≡ read_gives 10 0 in_simple_type
unfolding in_simple_type taped
u32-past = refl

u32-past-fraction : reads in_simple_type (empty "fractionDigits" (value_attribute "4294967296") ∷ []) ≡ read_gives 10 0 in_simple_type
unfolding in_simple_type taped
u32-past-fraction = refl

-- lengths are u64: "a low, b high 32 bits"
u64-low-high :
    reads in_simple_type (empty "maxLength" (value_attribute "4294967296") ∷ [])
    ≡ read_gives 0 1 (filled_sheet 40 1 (line 0 4 1 2 0 1 3 2 0 0 ∷ no_namespace ∷ line 3 0 1 1 0 0 0 0 0 0 ∷ line 7 0 0 0 0 0 0 0 1 0 ∷ []) "S")
unfolding in_simple_type taped
u64-low-high = refl

-- the highest
u64-highest :
    reads in_simple_type (empty "minLength" (value_attribute "18446744073709551615") ∷ [])
    ≡ read_gives 0 1 (filled_sheet 40 1 (line 0 4 1 2 0 1 3 2 0 0 ∷ no_namespace ∷ line 3 0 1 1 0 0 0 0 0 0
    ∷ line 6 0 0 0 0 0 0 4294967295 4294967295 0 ∷ []) "S")
unfolding in_simple_type taped
u64-highest = refl

-- one more
u64-past : reads in_simple_type (empty "minLength" (value_attribute "18446744073709551616") ∷ []) ≡ read_gives 10 0 in_simple_type
unfolding in_simple_type taped
u64-past = refl

-- "started facets do not": they are not read (E7)
started-facet :
    reads in_simple_type (start "minLength" (value_attribute "x") ∷ [])
    ≡ read_gives 0 1 (filled_sheet 40 1 (line 0 3 1 2 1 1 3 3 0 0 ∷ no_namespace ∷ line 3 0 1 1 0 0 0 0 0 0 ∷ []) "S")
unfolding in_simple_type taped
started-facet = refl

-- ---- 10: occurs

-- an open sequence and an open choice, with room for an element
in_sequence : Sheet
in_sequence = filled_sheet 40 3 (line 0 3 1 3 1 1 3 3 0 0 ∷ no_namespace ∷ line 12 0 1 0 0 0 0 0 0 0 ∷ []) "C"

in_choice : Sheet
in_choice = filled_sheet 40 3 (line 0 3 1 3 1 1 3 3 0 0 ∷ no_namespace ∷ line 13 0 1 0 0 0 0 0 0 0 ∷ []) "C"

-- min
min-no-number : reads in_sequence (empty "element" (("name", "e") ∷ ("type", "t") ∷ ("minOccurs", "x") ∷ []) ∷ []) ≡ read_gives 10 0 in_sequence
unfolding in_sequence taped
min-no-number = refl

-- max
max-no-number : reads in_sequence (empty "element" (("name", "e") ∷ ("type", "t") ∷ ("maxOccurs", "-1") ∷ []) ∷ []) ≡ read_gives 10 0 in_sequence
unfolding in_sequence taped
max-no-number = refl

-- "a max of exactly `unbounded`"
max-capital : reads in_sequence (empty "element" (("name", "e") ∷ ("type", "t") ∷ ("maxOccurs", "Unbounded") ∷ []) ∷ []) ≡ read_gives 10 0 in_sequence
unfolding in_sequence taped
max-capital = refl

-- a bad min with max unbounded (E6)
min-and-unbounded :
    reads in_sequence (empty "element" (("name", "e") ∷ ("type", "t") ∷ ("minOccurs", "x") ∷ ("maxOccurs", "unbounded") ∷ []) ∷ [])
    ≡ read_gives 10 0 in_sequence
unfolding in_sequence taped
min-and-unbounded = refl

-- a min of `unbounded`
min-unbounded : reads in_sequence (empty "element" (("name", "e") ∷ ("type", "t") ∷ ("minOccurs", "unbounded") ∷ []) ∷ []) ≡ read_gives 10 0 in_sequence
unfolding in_sequence taped
min-unbounded = refl

-- within u32
max-past : reads in_sequence (empty "element" (("name", "e") ∷ ("type", "t") ∷ ("maxOccurs", "4294967296") ∷ []) ∷ []) ≡ read_gives 10 0 in_sequence
unfolding in_sequence taped
max-past = refl

-- "default 1"
occurs-default :
    reads in_sequence (empty "element" (type_attributes "e" "t") ∷ [])
    ≡ read_gives 0 1 (filled_sheet 40 3 (line 0 4 3 3 1 1 4 3 0 0 ∷ no_namespace ∷ line 12 0 1 0 0 0 0 0 0 0 ∷ line 17 1 1 2 1 0 0 1 1 0 ∷ []) "Cet")
unfolding in_sequence taped
occurs-default = refl

-- both given
occurs-given :
    reads in_sequence (empty "element" (("name", "e") ∷ ("type", "t") ∷ ("minOccurs", "0") ∷ ("maxOccurs", "2") ∷ []) ∷ [])
    ≡ read_gives 0 1 (filled_sheet 40 3 (line 0 4 3 3 1 1 4 3 0 0 ∷ no_namespace ∷ line 12 0 1 0 0 0 0 0 0 0 ∷ line 17 1 1 2 1 0 0 0 2 0 ∷ []) "Cet")
unfolding in_sequence taped
occurs-given = refl

-- `unbounded` "gives tag 18"
occurs-unbounded :
    reads in_sequence (empty "element" (("name", "e") ∷ ("type", "t") ∷ ("maxOccurs", "unbounded") ∷ ("minOccurs", "5") ∷ []) ∷ [])
    ≡ read_gives 0 1 (filled_sheet 40 3 (line 0 4 3 3 1 1 4 3 0 0 ∷ no_namespace ∷ line 12 0 1 0 0 0 0 0 0 0 ∷ line 18 1 1 2 1 0 0 5 0 0 ∷ []) "Cet")
unfolding in_sequence taped
occurs-unbounded = refl

-- "`unbounded` may have white space around it too"
unbounded-space :
    reads in_sequence (empty "element" (("name", "e") ∷ ("type", "t") ∷ ("maxOccurs", " unbounded ") ∷ ("minOccurs", "5") ∷ []) ∷ [])
    ≡ read_gives 0 1 (filled_sheet 40 3 (line 0 4 3 3 1 1 4 3 0 0 ∷ no_namespace ∷ line 12 0 1 0 0 0 0 0 0 0 ∷ line 18 1 1 2 1 0 0 5 0 0 ∷ []) "Cet")
unfolding in_sequence taped
unbounded-space = refl

-- "only then": not where the type is absent (E6)
min-without-type :
    reads in_sequence (empty "element" (("name", "e") ∷ ("minOccurs", "x") ∷ []) ∷ [])
    ≡ read_gives 0 1 (filled_sheet 40 3 (line 0 3 1 3 1 1 4 3 0 0 ∷ no_namespace ∷ line 12 0 1 0 0 0 0 0 0 0 ∷ []) "C")
unfolding in_sequence taped
min-without-type = refl

-- "only in a sequence": not in a choice (E6)
min-in-choice :
    reads in_choice (empty "element" (("name", "e") ∷ ("type", "t") ∷ ("minOccurs", "x") ∷ []) ∷ [])
    ≡ read_gives 0 1 (filled_sheet 40 3 (line 0 4 3 3 1 1 4 3 0 0 ∷ no_namespace ∷ line 13 0 1 0 0 0 0 0 0 0 ∷ line 19 1 1 2 1 0 0 0 0 0 ∷ []) "Cet")
unfolding in_choice taped
min-in-choice = refl
