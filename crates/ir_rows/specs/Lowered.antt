-- What lowering makes of each row of a schema sheet. Paper 01, "Graph sheet", Tags.
--     reference_texts    the texts of a reference to a type: none for a built-in one
--     lowered_as         the graph's rows for a row of a tag, a, b and c with its first and second text; code_enum says that it belongs to a code enum
--     lowered_row        the same of a row
--     child_rows         the graph's rows for the children that a list of rows begins with
--     type_rows_of        the graph's rows for the type that a list of rows begins with
--     root_rows          the graph's rows for the elements
use Rattle.std.specs.Prelude.{ℕ, List, [], ◌∷◌, ◌++◌, Bool, false, eqb, if◌then◌else◌}
use Rattle.text.specs.Text.{Text}
use Rattle.builtin.specs.Builtin.{map_builtin, reference}
use Rattle.names.specs.Names.{normalize_type_name, xml_to_snake_case, code_to_pascal_case}
use Rattle.sheet.specs.Rows.{Row, row}
use Rattle.xsd_types.specs.Types.{MaxOccurs}
use Rattle.xsd_types.specs.Tags as schema
use Rattle.xsd_types.specs.Good.{is_head}
use Rattle.xsd_types.specs.Back.{text0, text1}
use Rattle.xsd_types.specs.Refused.{is_code_enum}
use Rattle.ir_types.specs.Types.{Cardinality}
use Rattle.ir_types.specs.Tags as graph
use Rattle.ir_types.specs.Rows.{cardinality_b, cardinality_c}
use Rattle.ir_lower.specs.Lower.{lower_cardinality}

-- "0 named (the pair, normalised), 1 String .. (pair unused)"
unfoldable pub reference_texts : Text → List Text
reference_texts name = if eqb (reference (map_builtin name)) 0 then normalize_type_name name ∷ [] else []

-- "7 value with attributes (name, reference)"
unfoldable pub value_row : ℕ → Text → Text → Row
value_row c t u = row graph.value_with_attributes_tag (normalize_type_name t ∷ reference_texts u) (reference (map_builtin u)) 0 c

-- "8 opaque (name; a and namespace as in 15)"
unfoldable pub opaque_row : ℕ → ℕ → Text → Text → Row
opaque_row a c t u = row graph.opaque_tag (normalize_type_name t ∷ (if eqb a 1 then u ∷ [] else [])) a 0 c

-- "9 field (xml, Rust name, reference; b cardinality 0 required, 1 optional, 2 vec, 3 bounded with c the bound, above 1)"
unfoldable pub lowered_field_row : Cardinality → Text → Text → Row
lowered_field_row k t u = row graph.field_tag (t ∷ xml_to_snake_case t ∷ reference_texts u) (reference (map_builtin u)) (cardinality_b k) (cardinality_c k)

-- a simple type's head: code enum or newtype
unfoldable pub simple_row : Bool → ℕ → Text → Text → Row
simple_row code_enum c t u =
    if code_enum
    then row graph.code_enum_tag (normalize_type_name t ∷ []) 0 0 c
    else row graph.newtype_tag (normalize_type_name t ∷ []) (reference (map_builtin u)) 0 c

-- "else newtype, enumerations dropped"
unfoldable pub code_rows : Bool → Text → List Row
code_rows code_enum t = if code_enum then row graph.code_tag (t ∷ code_to_pascal_case t ∷ []) 0 0 0 ∷ [] else []

-- a head keeps its c (order 5)
unfoldable pub lowered_as : Bool → ℕ → ℕ → ℕ → ℕ → Text → Text → List Row
lowered_as code_enum tag a b c t u =
    if eqb tag schema.namespace_tag then row graph.namespace_tag (t ∷ []) 0 0 0 ∷ [] else
    if eqb tag schema.element_tag then row graph.root_tag (t ∷ u ∷ []) 0 0 c ∷ [] else
    if eqb tag schema.simple_type_tag then simple_row code_enum c t u ∷ [] else
    if eqb tag schema.enumeration_tag then code_rows code_enum t else
    if eqb tag schema.pattern_tag then row graph.pattern_tag (t ∷ []) 0 0 0 ∷ [] else
    if eqb tag schema.min_length_tag then row graph.min_length_tag [] a b 0 ∷ [] else
    if eqb tag schema.max_length_tag then row graph.max_length_tag [] a b 0 ∷ [] else
    if eqb tag schema.min_inclusive_tag then row graph.min_inclusive_tag (t ∷ []) 0 0 0 ∷ [] else
    if eqb tag schema.max_inclusive_tag then row graph.max_inclusive_tag (t ∷ []) 0 0 0 ∷ [] else
    if eqb tag schema.total_digits_tag then row graph.total_digits_tag [] a 0 0 ∷ [] else
    if eqb tag schema.fraction_digits_tag then row graph.fraction_digits_tag [] a 0 0 ∷ [] else
    if eqb tag schema.sequence_tag then row graph.struct_tag (normalize_type_name t ∷ []) 0 0 c ∷ [] else
    if eqb tag schema.choice_tag then row graph.enum_tag (normalize_type_name t ∷ []) 0 0 c ∷ [] else
    if eqb tag schema.simple_content_tag then value_row c t u ∷ [] else
    if eqb tag schema.any_tag then opaque_row a c t u ∷ [] else
    if eqb tag schema.bound_element_tag then lowered_field_row (lower_cardinality a (MaxOccurs.bounded b)) t u ∷ [] else
    if eqb tag schema.unbounded_element_tag then lowered_field_row (lower_cardinality a MaxOccurs.unbounded) t u ∷ [] else
    if eqb tag schema.choice_variant_tag then row graph.variant_tag (t ∷ t ∷ reference_texts u) (reference (map_builtin u)) 0 0 ∷ [] else
    if eqb tag schema.attribute_tag then row graph.attribute_tag (t ∷ xml_to_snake_case t ∷ reference_texts u) (reference (map_builtin u)) a 0 ∷ [] else []

unfoldable pub lowered_row : Bool → Row → List Row
lowered_row code_enum r = lowered_as code_enum r.tag r.a r.b r.c (text0 r) (text1 r)

unfoldable pub child_rows : Bool → List Row → List Row
child_rows code_enum [] = []
child_rows code_enum (r ∷ rs) = if is_head r.tag then [] else lowered_row code_enum r ++ child_rows code_enum rs

-- "Then roots, then types, children behind each."
unfoldable pub type_rows_of : List Row → List Row
type_rows_of [] = []
type_rows_of (r ∷ rs) = lowered_row (is_code_enum rs) r ++ child_rows (is_code_enum rs) rs

unfoldable pub root_rows : List Row → List Row
root_rows [] = []
root_rows (r ∷ rs) = if eqb r.tag schema.element_tag then lowered_row false r ++ root_rows rs else root_rows rs
