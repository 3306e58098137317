-- The finished types in lowering's order. Paper 01, "Graph sheet": "Only finished types are lowered, simple ones before complex."
--     finished_names    their normalised names
--     references_of       the references of a definition; type_names_in: the type names of a content
use Rattle.std.specs.Prelude.{List, [], ◌∷◌, ◌++◌, map}
use Rattle.text.specs.Text.{Text}
use Rattle.names.specs.Names.{normalize_type_name}
use Rattle.xsd_types.specs.Types.{SimpleType, SequenceElement, ChoiceVariant, Attribute, ComplexContent, ComplexType, Schema, simple_types, complex_types}
use Rattle.ir_types.specs.Types.{TypeRef, FieldDef, VariantDef, AttrDef, TypeDef}

unfoldable pub simple_name : SimpleType → Text
simple_name t = normalize_type_name t.name

unfoldable pub complex_name : ComplexType → Text
complex_name t = normalize_type_name t.name

unfoldable pub finished_names : Schema → List Text
finished_names s = map simple_name (simple_types s.items) ++ map complex_name (complex_types s.items)

-- the references of a definition: of its fields, its variants, its value and its attributes
unfoldable pub references_of : TypeDef → List TypeRef
references_of (TypeDef.struct event n fs) = map (λ (f : FieldDef). f.type_ref) fs
references_of (TypeDef.enum event n vs) = map (λ (v : VariantDef). v.type_ref) vs
references_of (TypeDef.newtype event n i cs) = []
references_of (TypeDef.code_enum event n cs) = []
references_of (TypeDef.value_with_attr event n v xs) = v ∷ map (λ (x : AttrDef). x.type_ref) xs
references_of (TypeDef.opaque event n ns) = []

-- the type names that a complex type's content holds
unfoldable pub type_names_in : ComplexContent → List Text
type_names_in (ComplexContent.sequence es) = map (λ (e : SequenceElement). e.type_name) es
type_names_in (ComplexContent.choice vs) = map (λ (v : ChoiceVariant). v.type_name) vs
type_names_in (ComplexContent.simple_content base xs) = base ∷ map (λ (x : Attribute). x.type_name) xs
type_names_in (ComplexContent.any n) = []
