-- The text of a schema told row by row, as the code writes it: a head first closes the one before it. Only proofs use it; `rows-text` (proofs/Laws/ByRows)
-- ties it to the definition by items.
--     attribute_text      one attribute, a space before it
--     empty_text          an empty tag of a prefixed word around its attributes
--     head_markup           what a head opens, by its tag; an element opens nothing
--     facet_word_text, facet_value_text, max_occurs_text, use_text    the parts of children's tags
--     child_text          a child, by its tag
--     close_text          what the head of a tag closes behind its children
--     rows_text           the rows behind a head of the tag `pending`, 0 where there is none, and the last close
--     schema_by_rows       the whole
use Rattle.std.specs.Prelude.{ℕ, ◌+◌, ◌*◌, ◌^◌, List, [], ◌∷◌, ◌++◌, ◌||◌, eqb, if◌then◌else◌}
use Prim.Native.String.{String}
use Rattle.text.specs.Text.{Text, bytes, between}
use Rattle.sheet.specs.Rows.{Row}
use Rattle.xsd_types.specs.Types.{Schema}
use Rattle.xsd_types.specs.Tags.{element_tag, simple_type_tag, enumeration_tag, pattern_tag, min_length_tag, max_length_tag, min_inclusive_tag, max_inclusive_tag, total_digits_tag}
use Rattle.xsd_types.specs.Tags.{fraction_digits_tag, sequence_tag, choice_tag, simple_content_tag, any_tag, bound_element_tag, unbounded_element_tag, choice_variant_tag}
use Rattle.xsd_types.specs.Rows.{items_rows}
use Rattle.xsd_types.specs.Good.{is_head}
use Rattle.xsd_types.specs.Back.{text0, text1}
use Rattle.xml.specs.Written.{written_attributes}
use Rattle.xsd_written.specs.Decimal.{decimal}
use Rattle.xsd_written.specs.Schema.{attr}

unfoldable pub attribute_text : String → Text → Text
attribute_text key v = written_attributes (attr key v ∷ [])

unfoldable pub empty_text : Text → Text → Text
empty_text word attributes = bytes "<xs:" ++ (word ++ (attributes ++ bytes "/>"))

-- name and type, of elements and attributes
unfoldable pub named_text : Row → Text
named_text r = attribute_text "name" (text0 r) ++ attribute_text "type" (text1 r)

unfoldable pub complex_text : Row → Text → Text
complex_text r content = bytes "<xs:complexType" ++ (attribute_text "name" (text0 r) ++ content)

unfoldable pub any_text : Row → Text
any_text r = if eqb r.a 1 then attribute_text "namespace" (text1 r) else []

unfoldable pub head_markup : Row → Text
head_markup r =
    if eqb r.tag element_tag then empty_text (bytes "element") (named_text r) else
    if eqb r.tag simple_type_tag
    then bytes "<xs:simpleType" ++ (attribute_text "name" (text0 r) ++ (bytes "><xs:restriction" ++ (attribute_text "base" (text1 r) ++ bytes ">"))) else
    if eqb r.tag sequence_tag then complex_text r (bytes "><xs:sequence>") else
    if eqb r.tag choice_tag then complex_text r (bytes "><xs:choice>") else
    if eqb r.tag simple_content_tag
    then complex_text r (bytes "><xs:simpleContent><xs:extension" ++ (attribute_text "base" (text1 r) ++ bytes ">"))
    else complex_text r (bytes "><xs:sequence><xs:any" ++ (any_text r ++ bytes "/>"))

unfoldable pub facet_word_text : ℕ → Text
facet_word_text tag =
    if eqb tag enumeration_tag then bytes "enumeration" else
    if eqb tag pattern_tag then bytes "pattern" else
    if eqb tag min_length_tag then bytes "minLength" else
    if eqb tag max_length_tag then bytes "maxLength" else
    if eqb tag min_inclusive_tag then bytes "minInclusive" else
    if eqb tag max_inclusive_tag then bytes "maxInclusive" else
    if eqb tag total_digits_tag then bytes "totalDigits" else bytes "fractionDigits"

unfoldable pub facet_value_text : Row → Text
facet_value_text r =
    if between min_length_tag max_length_tag r.tag then decimal (r.a + r.b * 2 ^ 32) else
    if between total_digits_tag fraction_digits_tag r.tag then decimal r.a else text0 r

unfoldable pub max_occurs_text : Row → Text
max_occurs_text r = if eqb r.tag bound_element_tag then decimal r.b else bytes "unbounded"

unfoldable pub occurs_text : Row → Text
occurs_text r = attribute_text "minOccurs" (decimal r.a) ++ attribute_text "maxOccurs" (max_occurs_text r)

unfoldable pub use_text : Row → Text
use_text r = if eqb r.a 1 then attribute_text "use" (bytes "required") else []

unfoldable pub child_text : Row → Text
child_text r =
    if between enumeration_tag fraction_digits_tag r.tag then empty_text (facet_word_text r.tag) (attribute_text "value" (facet_value_text r)) else
    if between bound_element_tag unbounded_element_tag r.tag then empty_text (bytes "element") (named_text r ++ occurs_text r) else
    if eqb r.tag choice_variant_tag then empty_text (bytes "element") (named_text r) else empty_text (bytes "attribute") (named_text r ++ use_text r)

unfoldable pub close_text : ℕ → Text
close_text tag =
    if eqb tag simple_type_tag then bytes "</xs:restriction></xs:simpleType>" else
    if eqb tag sequence_tag || eqb tag any_tag then bytes "</xs:sequence></xs:complexType>" else
    if eqb tag choice_tag then bytes "</xs:choice></xs:complexType>" else
    if eqb tag simple_content_tag then bytes "</xs:extension></xs:simpleContent></xs:complexType>" else []

unfoldable pub rows_text : ℕ → List Row → Text
rows_text pending [] = close_text pending
rows_text pending (r ∷ rs) =
    if is_head r.tag then close_text pending ++ (head_markup r ++ rows_text r.tag rs) else child_text r ++ rows_text pending rs

unfoldable pub schema_by_rows : Schema → Text
schema_by_rows s =
    bytes "<xs:schema xmlns:xs=\"http://www.w3.org/2001/XMLSchema\"" ++ (attribute_text "targetNamespace" s.target_namespace
    ++ (bytes ">" ++ (rows_text 0 (items_rows s.items) ++ bytes "</xs:schema>")))
