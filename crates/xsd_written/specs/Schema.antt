-- Order 8: the markup of a schema. "types and elements in sheet order, tags prefixed `xs:`"; "Elements, facets, `any` and `attribute` are empty tags; all
-- others open and close."
--     attr          an attribute by its quoted key; prefixed_tag: a tag by its quoted word, prefixed
--     around        a start tag, what it holds, its end tag
--     facet_markup, element_markup, variant_markup, attribute_markup    a child
--     content_markup what a complex type holds; item_markup, items_markup: an item, all items
--     schema_markup  the whole; schema_text: as text
use Prim.Native.String.{String}
use Rattle.std.specs.Prelude.{List, [], ◌∷◌, ◌++◌, map, Bool, true, false}
use Rattle.std.proofs.Math.Option.{Option, some, none}
use Rattle.text.specs.Text.{Text, bytes}
use Rattle.xsd_types.specs.Types.{Facet, MaxOccurs, SequenceElement, ChoiceVariant, Attribute, ComplexContent, Item, Schema}
use Rattle.xsd_parser.specs.Event.{Attr, Tag}
use Rattle.xsd_written.specs.Decimal.{decimal}
use Rattle.xsd_written.specs.Markup.{Markup, starts, empties, ends, markups_text}

unfoldable pub attr : String → Text → Attr
attr key v = record { key = bytes key; value = v }

-- "tags prefixed `xs:`"
unfoldable pub prefixed : String → Text
prefixed word = bytes "xs:" ++ bytes word

unfoldable pub prefixed_tag : String → List Attr → Tag
prefixed_tag word xs = record { name = prefixed word; attributes = xs }

unfoldable pub around : String → List Attr → List Markup → List Markup
around word xs ms = starts (prefixed_tag word xs) ∷ (ms ++ ends (prefixed word) ∷ [])

unfoldable pub valued : String → Text → Markup
valued word v = empties (prefixed_tag word (attr "value" v ∷ []))

unfoldable pub facet_markup : Facet → Markup
facet_markup (Facet.enumeration v) = valued "enumeration" v
facet_markup (Facet.pattern v) = valued "pattern" v
facet_markup (Facet.min_length n) = valued "minLength" (decimal n)
facet_markup (Facet.max_length n) = valued "maxLength" (decimal n)
facet_markup (Facet.min_inclusive v) = valued "minInclusive" v
facet_markup (Facet.max_inclusive v) = valued "maxInclusive" v
facet_markup (Facet.total_digits n) = valued "totalDigits" (decimal n)
facet_markup (Facet.fraction_digits n) = valued "fractionDigits" (decimal n)

abbrev pub max_text : MaxOccurs → Text
max_text (MaxOccurs.bounded n) = decimal n
max_text MaxOccurs.unbounded = bytes "unbounded"

-- "Attributes stand in row order": name, type, min, max
unfoldable pub element_markup : SequenceElement → Markup
element_markup e =
    empties (prefixed_tag "element" (attr "name" e.name ∷ attr "type" e.type_name ∷ attr "minOccurs" (decimal e.min_occurs) ∷ attr "maxOccurs" (max_text e.max_occurs) ∷ []))

unfoldable pub variant_markup : ChoiceVariant → Markup
variant_markup v = empties (prefixed_tag "element" (attr "name" v.name ∷ attr "type" v.type_name ∷ []))

-- "`use` only if required"
abbrev pub use_of : Bool → List Attr
use_of true = attr "use" (bytes "required") ∷ []
use_of false = []

unfoldable pub attribute_markup : Attribute → Markup
attribute_markup x = empties (prefixed_tag "attribute" (attr "name" x.name ∷ attr "type" x.type_name ∷ use_of x.required))

-- "`namespace` only if present"
abbrev pub namespace_of : Option Text → List Attr
namespace_of none = []
namespace_of (some n) = attr "namespace" n ∷ []

-- "a complexType a sequence, a choice, a simpleContent with an extension, or for 15 a sequence with `any`"
unfoldable pub content_markup : ComplexContent → List Markup
content_markup (ComplexContent.sequence es) = around "sequence" [] (map element_markup es)
content_markup (ComplexContent.choice vs) = around "choice" [] (map variant_markup vs)
content_markup (ComplexContent.simple_content base xs) = around "simpleContent" [] (around "extension" (attr "base" base ∷ []) (map attribute_markup xs))
content_markup (ComplexContent.any n) = around "sequence" [] (empties (prefixed_tag "any" (namespace_of n)) ∷ [])

-- "A simpleType holds a restriction"
unfoldable pub item_markup : Item → List Markup
item_markup (Item.element e) = empties (prefixed_tag "element" (attr "name" e.name ∷ attr "type" e.type_name ∷ [])) ∷ []
item_markup (Item.simple_type t) =
    around "simpleType" (attr "name" t.name ∷ []) (around "restriction" (attr "base" t.base ∷ []) (map facet_markup t.facets))
item_markup (Item.complex_type t) = around "complexType" (attr "name" t.name ∷ []) (content_markup t.content)

unfoldable pub items_markup : List Item → List Markup
items_markup [] = []
items_markup (i ∷ is) = item_markup i ++ items_markup is

-- "the first `<xs:schema xmlns:xs="http://www.w3.org/2001/XMLSchema" targetNamespace="N">`, N the namespace"
unfoldable pub schema_markup : Schema → List Markup
schema_markup s =
    around "schema" (attr "xmlns:xs" (bytes "http://www.w3.org/2001/XMLSchema") ∷ attr "targetNamespace" s.target_namespace ∷ []) (items_markup s.items)

unfoldable pub schema_text : Schema → Text
schema_text s = markups_text (schema_markup s)
