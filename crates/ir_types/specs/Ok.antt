-- The graphs that a graph sheet can hold: each text is one of a graph, each number is within its width in 003, a bound is above 1.
--     ref_ok .. type_ok, root_ok    the same of the parts
--     graph_ok       all of it
--     row_form       tag, a, b and c of a row are what the tag allows
--     is_small       the number is below 2 ^ 32; row_small: tag, a, b and c are
--     row_ok         all three, and the row's texts are texts
use Rattle.std.specs.Prelude.{ℕ, ◌^◌, Bool, true, ◌&&◌, ltb}
use Rattle.std.proofs.Math.Option.{some, none}
use Rattle.text.specs.Text.{every, is_graph_text, between}
use Rattle.sheet.specs.Rows.{Row}
use Rattle.sheet.specs.Form.{texts_counted}
use Rattle.ir_types.specs.Types.{TypeRef, Cardinality, FieldDef, VariantDef, Constraint, CodeValue, AttrDef, TypeDef, RootElement, TypeGraph}
use Rattle.ir_types.specs.Form.{used_pairs, form_a, form_b, form_c}

unfoldable pub is_small : ℕ → Bool
is_small n = ltb n (2 ^ 32)

unfoldable pub ref_ok : TypeRef → Bool
ref_ok (TypeRef.named n) = is_graph_text n
ref_ok (TypeRef.builtin t) = true

unfoldable pub cardinality_ok : Cardinality → Bool
cardinality_ok Cardinality.required = true
cardinality_ok Cardinality.optional = true
cardinality_ok Cardinality.vec = true
cardinality_ok (Cardinality.bounded_vec n) = ltb 1 n && ltb n (2 ^ 32)

unfoldable pub field_ok : FieldDef → Bool
field_ok f = is_graph_text f.xml_name && is_graph_text f.rust_name && ref_ok f.type_ref && cardinality_ok f.cardinality

unfoldable pub variant_ok : VariantDef → Bool
variant_ok v = is_graph_text v.xml_name && is_graph_text v.rust_name && ref_ok v.type_ref

unfoldable pub constraint_ok : Constraint → Bool
constraint_ok (Constraint.pattern v) = is_graph_text v
constraint_ok (Constraint.min_length n) = ltb n (2 ^ 64)
constraint_ok (Constraint.max_length n) = ltb n (2 ^ 64)
constraint_ok (Constraint.min_inclusive v) = is_graph_text v
constraint_ok (Constraint.max_inclusive v) = is_graph_text v
constraint_ok (Constraint.total_digits n) = ltb n (2 ^ 32)
constraint_ok (Constraint.fraction_digits n) = ltb n (2 ^ 32)

unfoldable pub code_ok : CodeValue → Bool
code_ok v = is_graph_text v.xml_value && is_graph_text v.rust_name

unfoldable pub attr_ok : AttrDef → Bool
attr_ok x = is_graph_text x.xml_name && is_graph_text x.rust_name && ref_ok x.type_ref

unfoldable pub type_ok : TypeDef → Bool
type_ok (TypeDef.struct event n fs) = is_small event && (is_graph_text n && every field_ok fs)
type_ok (TypeDef.enum event n vs) = is_small event && (is_graph_text n && every variant_ok vs)
type_ok (TypeDef.newtype event n i cs) = is_small event && (is_graph_text n && every constraint_ok cs)
type_ok (TypeDef.code_enum event n cs) = is_small event && (is_graph_text n && every code_ok cs)
type_ok (TypeDef.value_with_attr event n v xs) = is_small event && (is_graph_text n && ref_ok v && every attr_ok xs)
type_ok (TypeDef.opaque event n none) = is_small event && is_graph_text n
type_ok (TypeDef.opaque event n (some ns)) = is_small event && (is_graph_text n && is_graph_text ns)

unfoldable pub root_ok : RootElement → Bool
root_ok e = is_small e.event && (is_graph_text e.xml_name && is_graph_text e.type_name)

unfoldable pub graph_ok : TypeGraph → Bool
graph_ok g = is_graph_text g.namespace && every root_ok g.root_elements && every type_ok g.types

unfoldable pub row_form : Row → Bool
row_form r = between 2 19 r.tag && form_a r.tag r.a && form_b r.tag r.b && form_c r.tag r.b r.c

unfoldable pub row_small : Row → Bool
row_small r = is_small r.tag && is_small r.a && is_small r.b && is_small r.c

unfoldable pub row_ok : Row → Bool
row_ok r = texts_counted used_pairs r && row_form r && row_small r && every is_graph_text r.texts
