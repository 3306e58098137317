-- The graph as rows. Paper 01, "Graph sheet", Tags. Tags 3 to 8 all have the name as their first text.
--     ref_a, ref_text     a of a reference, and its text where it is named
--     cardinality_b, cardinality_c    b and c of a field
--     field_row .. attr_row    the rows of children
--     type_rows, types_rows    a definition's rows: its head, its children behind it; those of all; c of a head is its event's number
--     root_row           the row of a root
--     rows_of            all rows behind row 0: "Row 1: tag 1, namespace. Then roots, then types, children behind each."
--     rows_used, names_used    how much of a sheet is used
--     row0              row 0 of a graph
use Rattle.std.specs.Prelude.{ℕ, ◌+◌, ◌%◌, ◌/◌, ◌^◌, List, [], ◌∷◌, ◌++◌, map, length}
use Rattle.std.proofs.Math.Option.{some, none}
use Rattle.text.specs.Text.{Text}
use Rattle.builtin.specs.Builtin.{rust_type_number}
use Rattle.sheet.specs.Rows.{Row, names_of, row, bit}
use Rattle.ir_types.specs.Tags.{namespace_tag, root_tag, struct_tag, enum_tag, newtype_tag, code_enum_tag, value_with_attributes_tag, opaque_tag, field_tag, variant_tag, pattern_tag}
use Rattle.ir_types.specs.Tags.{min_length_tag, max_length_tag, min_inclusive_tag, max_inclusive_tag, total_digits_tag, fraction_digits_tag, code_tag, attribute_tag}
use Rattle.ir_types.specs.Row0.{GraphRow0, graph_row0_of}
use Rattle.ir_types.specs.Types.{TypeRef, Cardinality, FieldDef, VariantDef, Constraint, CodeValue, AttrDef, TypeDef, RootElement, TypeGraph}

-- "A reference is a: 0 named (the pair, normalised), 1 String, 2 Bool, 3 Decimal, 4 Date, 5 DateTime (pair unused)."
unfoldable pub ref_a : TypeRef → ℕ
ref_a (TypeRef.named n) = 0
ref_a (TypeRef.builtin t) = rust_type_number t

unfoldable pub ref_text : TypeRef → List Text
ref_text (TypeRef.named n) = n ∷ []
ref_text (TypeRef.builtin t) = []

-- "b cardinality 0 required, 1 optional, 2 vec, 3 bounded with c the bound, above 1"
unfoldable pub cardinality_b : Cardinality → ℕ
cardinality_b Cardinality.required = 0
cardinality_b Cardinality.optional = 1
cardinality_b Cardinality.vec = 2
cardinality_b (Cardinality.bounded_vec n) = 3

unfoldable pub cardinality_c : Cardinality → ℕ
cardinality_c Cardinality.required = 0
cardinality_c Cardinality.optional = 0
cardinality_c Cardinality.vec = 0
cardinality_c (Cardinality.bounded_vec n) = n

-- "9 field (xml, Rust name, reference; b cardinality)"
unfoldable pub field_row : FieldDef → Row
field_row f = row field_tag (f.xml_name ∷ f.rust_name ∷ ref_text f.type_ref) (ref_a f.type_ref) (cardinality_b f.cardinality) (cardinality_c f.cardinality)

-- "10 variant (xml, same name, reference)"
unfoldable pub variant_row : VariantDef → Row
variant_row v = row variant_tag (v.xml_name ∷ v.rust_name ∷ ref_text v.type_ref) (ref_a v.type_ref) 0 0

-- "11 pattern, 12 minLength, 13 maxLength, 14 minInclusive, 15 maxInclusive, 16 totalDigits, 17 fractionDigits (each as the facet's row)"
unfoldable pub constraint_row : Constraint → Row
constraint_row (Constraint.pattern v) = row pattern_tag (v ∷ []) 0 0 0
constraint_row (Constraint.min_length n) = row min_length_tag [] (n % 2 ^ 32) (n / 2 ^ 32) 0
constraint_row (Constraint.max_length n) = row max_length_tag [] (n % 2 ^ 32) (n / 2 ^ 32) 0
constraint_row (Constraint.min_inclusive v) = row min_inclusive_tag (v ∷ []) 0 0 0
constraint_row (Constraint.max_inclusive v) = row max_inclusive_tag (v ∷ []) 0 0 0
constraint_row (Constraint.total_digits n) = row total_digits_tag [] n 0 0
constraint_row (Constraint.fraction_digits n) = row fraction_digits_tag [] n 0 0

-- "18 code (xml, Rust name)"
unfoldable pub code_row : CodeValue → Row
code_row v = row code_tag (v.xml_value ∷ v.rust_name ∷ []) 0 0 0

-- "19 attribute (xml, Rust name, reference, b required)"
unfoldable pub attr_row : AttrDef → Row
attr_row x = row attribute_tag (x.xml_name ∷ x.rust_name ∷ ref_text x.type_ref) (ref_a x.type_ref) (bit x.required) 0

-- order 5: "Every head .. carries in c the number in the run of the event that gave it its name."
-- "3 struct, 4 enum, 5 newtype (a inner), 6 code enum, 7 value with attributes (name, reference), 8 opaque (name; a and namespace as in 15)"
unfoldable pub type_rows : TypeDef → List Row
type_rows (TypeDef.struct event n fs) = row struct_tag (n ∷ []) 0 0 event ∷ map field_row fs
type_rows (TypeDef.enum event n vs) = row enum_tag (n ∷ []) 0 0 event ∷ map variant_row vs
type_rows (TypeDef.newtype event n i cs) = row newtype_tag (n ∷ []) (rust_type_number i) 0 event ∷ map constraint_row cs
type_rows (TypeDef.code_enum event n cs) = row code_enum_tag (n ∷ []) 0 0 event ∷ map code_row cs
type_rows (TypeDef.value_with_attr event n v xs) = row value_with_attributes_tag (n ∷ ref_text v) (ref_a v) 0 event ∷ map attr_row xs
type_rows (TypeDef.opaque event n none) = row opaque_tag (n ∷ []) 0 0 event ∷ []
type_rows (TypeDef.opaque event n (some ns)) = row opaque_tag (n ∷ ns ∷ []) 1 0 event ∷ []

unfoldable pub types_rows : List TypeDef → List Row
types_rows [] = []
types_rows (d ∷ ds) = type_rows d ++ types_rows ds

-- "2 root (xml name, type name unchanged)"
unfoldable pub root_row : RootElement → Row
root_row e = row root_tag (e.xml_name ∷ e.type_name ∷ []) 0 0 e.event

unfoldable pub rows_of : TypeGraph → List Row
rows_of g = row namespace_tag (g.namespace ∷ []) 0 0 0 ∷ (map root_row g.root_elements ++ types_rows g.types)

unfoldable pub rows_used : TypeGraph → ℕ
rows_used g = 1 + length (rows_of g)

unfoldable pub names_used : TypeGraph → ℕ
names_used g = length (names_of (rows_of g))

-- "Row 0: 0, rows used, names used, root elements, types, then zeros."
unfoldable pub row0 : TypeGraph → GraphRow0
row0 g = graph_row0_of (rows_used g) (names_used g) (length g.root_elements) (length g.types)
