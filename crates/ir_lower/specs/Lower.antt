-- Lowering: 001 (lower.rs), `lower` and its helpers, clause by clause. A root and a definition have the event's number of their head (order 5).
use Rattle.std.specs.Prelude.{ℕ, ◌+◌, List, [], ◌∷◌, ◌++◌, map, Bool, false, ◌&&◌, ◌||◌, eqb, ltb, length, if◌then◌else◌}
use Rattle.std.proofs.Math.Option.{Option, some, none}
use Rattle.text.specs.Text.{Text}
use Rattle.builtin.specs.Builtin.{RustType, map_builtin}
use Rattle.names.specs.Names.{normalize_type_name, xml_to_snake_case, code_to_pascal_case}
use Rattle.xsd_types.specs.Types.{Element, Facet, SimpleType, MaxOccurs, SequenceElement, ChoiceVariant, Attribute, ComplexContent, ComplexType, Item, Schema, elements, simple_types, complex_types}
use Rattle.xsd_types.specs.Rows.{item_rows}
use Rattle.xsd_types.specs.Refused.{all_enums, refused_base, refused_item}
use Rattle.ir_types.specs.Types.{TypeRef, Cardinality, FieldDef, VariantDef, Constraint, CodeValue, AttrDef, TypeDef, RootElement, TypeGraph}

-- 001, `resolve_type_ref`: built-in names win
unfoldable pub resolved : Text → Option RustType → TypeRef
resolved name none = TypeRef.named (normalize_type_name name)
resolved name (some t) = TypeRef.builtin t

unfoldable pub resolve_type_ref : Text → TypeRef
resolve_type_ref name = resolved name (map_builtin name)

-- ---- simple types

-- 001, `lower_code_enum`: filter_map over the enumerations
unfoldable pub codes : List Facet → List CodeValue
codes [] = []
codes (Facet.enumeration v ∷ fs) = record { xml_value = v; rust_name = code_to_pascal_case v } ∷ codes fs
codes (Facet.pattern v ∷ fs) = codes fs
codes (Facet.min_length n ∷ fs) = codes fs
codes (Facet.max_length n ∷ fs) = codes fs
codes (Facet.min_inclusive v ∷ fs) = codes fs
codes (Facet.max_inclusive v ∷ fs) = codes fs
codes (Facet.total_digits n ∷ fs) = codes fs
codes (Facet.fraction_digits n ∷ fs) = codes fs

-- 001, `lower_facet`: "else newtype, enumerations dropped"
unfoldable pub constraints : List Facet → List Constraint
constraints [] = []
constraints (Facet.enumeration v ∷ fs) = constraints fs
constraints (Facet.pattern v ∷ fs) = Constraint.pattern v ∷ constraints fs
constraints (Facet.min_length n ∷ fs) = Constraint.min_length n ∷ constraints fs
constraints (Facet.max_length n ∷ fs) = Constraint.max_length n ∷ constraints fs
constraints (Facet.min_inclusive v ∷ fs) = Constraint.min_inclusive v ∷ constraints fs
constraints (Facet.max_inclusive v ∷ fs) = Constraint.max_inclusive v ∷ constraints fs
constraints (Facet.total_digits n ∷ fs) = Constraint.total_digits n ∷ constraints fs
constraints (Facet.fraction_digits n ∷ fs) = Constraint.fraction_digits n ∷ constraints fs

-- 001, `lower_newtype`: none is `UnknownBase`
unfoldable pub lower_newtype : SimpleType → Option RustType → Option TypeDef
lower_newtype t none = none
lower_newtype t (some inner) = some (TypeDef.newtype t.event (normalize_type_name t.name) inner (constraints t.facets))

unfoldable pub lower_simple_type : SimpleType → Option TypeDef
lower_simple_type t =
    if all_enums t.facets
    then some (TypeDef.code_enum t.event (normalize_type_name t.name) (codes t.facets))
    else lower_newtype t (map_builtin t.base)

-- ---- complex types

-- 001, `lower_cardinality`: "unbounded gives vec; max above 1 bounded; min 0 and max 1 optional; all else required"
unfoldable pub lower_cardinality : ℕ → MaxOccurs → Cardinality
lower_cardinality min MaxOccurs.unbounded = Cardinality.vec
lower_cardinality min (MaxOccurs.bounded n) =
    if ltb 1 n then Cardinality.bounded_vec n else
    if eqb min 0 && eqb n 1 then Cardinality.optional else Cardinality.required

unfoldable pub lower_field : SequenceElement → FieldDef
lower_field e =
    record {
      xml_name = e.name;
      rust_name = xml_to_snake_case e.name;
      type_ref = resolve_type_ref e.type_name;
      cardinality = lower_cardinality e.min_occurs e.max_occurs;
    }

-- 001, `lower_enum`: variant names are kept
unfoldable pub lower_variant : ChoiceVariant → VariantDef
lower_variant v = record { xml_name = v.name; rust_name = v.name; type_ref = resolve_type_ref v.type_name }

unfoldable pub lower_attribute : Attribute → AttrDef
lower_attribute x =
    record { xml_name = x.name; rust_name = xml_to_snake_case x.name; type_ref = resolve_type_ref x.type_name; required = x.required }

unfoldable pub lower_content : ℕ → Text → ComplexContent → TypeDef
lower_content event name (ComplexContent.sequence es) = TypeDef.struct event name (map lower_field es)
lower_content event name (ComplexContent.choice vs) = TypeDef.enum event name (map lower_variant vs)
lower_content event name (ComplexContent.simple_content base xs) = TypeDef.value_with_attr event name (resolve_type_ref base) (map lower_attribute xs)
lower_content event name (ComplexContent.any n) = TypeDef.opaque event name n

unfoldable pub lower_complex_type : ComplexType → TypeDef
lower_complex_type t = lower_content t.event (normalize_type_name t.name) t.content

-- ---- lower

-- a finished simple type that lowering refuses is there
unfoldable pub any_unknown : List SimpleType → Bool
any_unknown [] = false
any_unknown (t ∷ ts) = refused_base t || any_unknown ts

-- the definitions of those that it does not refuse
unfoldable pub with_definition : Option TypeDef → List TypeDef → List TypeDef
with_definition none ds = ds
with_definition (some d) ds = d ∷ ds

unfoldable pub simple_definitions : List SimpleType → List TypeDef
simple_definitions [] = []
simple_definitions (t ∷ ts) = with_definition (lower_simple_type t) (simple_definitions ts)

-- "Only finished types are lowered, simple ones before complex."
unfoldable pub finished_definitions : Schema → List TypeDef
finished_definitions s = simple_definitions (simple_types s.items) ++ map lower_complex_type (complex_types s.items)

unfoldable pub root_of_element : Element → RootElement
root_of_element e = record { xml_name = e.name; type_name = e.type_name; event = e.event }

unfoldable pub graph_of : Schema → TypeGraph
graph_of s =
    record {
      namespace = s.target_namespace;
      root_elements = map root_of_element (elements s.items);
      types = finished_definitions s;
    }

-- none is `UnknownBase`
unfoldable pub lower : Schema → Option TypeGraph
lower s = if any_unknown (simple_types s.items) then none else some (graph_of s)

-- 13: "place is the row of the first such simple type": row is the first item's row in the schema sheet
unfoldable pub unknown_row : ℕ → List Item → ℕ
unknown_row row [] = 0
unknown_row row (i ∷ is) = if refused_item i then row else unknown_row (row + length (item_rows i)) is
