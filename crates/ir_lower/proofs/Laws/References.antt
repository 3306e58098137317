-- Every named reference is the normalised type name of what was lowered, and that is no built-in name. Assumes nothing.
use Prim.Native.Nat.{ℕ}
use mathlib.Core.Path.{◌≡◌, refl, ap}
use mathlib.Core.List.{List, [], ◌∷◌, map}
use mathlib.Core.Option.{Option, some, none}
use native.Mathlib.Omega.{arith}
use Rattle.text.specs.Text.{Text}
use Rattle.builtin.specs.Builtin.{RustType, map_builtin}
use Rattle.names.specs.Names.{normalize_type_name}
use Rattle.xsd_types.specs.Types.{SequenceElement, ChoiceVariant, Attribute, ComplexContent}
use Rattle.ir_types.specs.Types.{TypeRef, FieldDef, VariantDef, AttrDef}
use Rattle.ir_lower.specs.Lower.{resolved, resolve_type_ref, lower_field, lower_variant, lower_attribute, lower_content}
use Rattle.ir_lower.specs.Finished.{references_of, type_names_in}

resolved-named : (name : Text) (o : Option RustType) (t : Text) → resolved name o ≡ TypeRef.named t → (t ≡ normalize_type_name name) × (o ≡ none)
unfolding resolved
resolved-named name none t e = (cc, refl)
resolved-named name (some r) t e = let z : ◌≡◌ {A = ℕ} 0 1 = cc in absurd (omega arith)

pub resolve-named : (name t : Text) → resolve_type_ref name ≡ TypeRef.named t → (t ≡ normalize_type_name name) × (map_builtin name ≡ none)
unfolding resolve_type_ref
resolve-named name t e = resolved-named name (map_builtin name) t e

resolved-builtin : (name : Text) (o : Option RustType) (r : RustType) → resolved name o ≡ TypeRef.builtin r → o ≡ some r
unfolding resolved
resolved-builtin name none r e = let z : ◌≡◌ {A = ℕ} 0 1 = cc in absurd (omega arith)
resolved-builtin name (some q) r e = cc

pub resolve-builtin : (name : Text) (r : RustType) → resolve_type_ref name ≡ TypeRef.builtin r → map_builtin name ≡ some r
unfolding resolve_type_ref
resolve-builtin name r e = resolved-builtin name (map_builtin name) r e

-- ---- place by place

pub field-reference : (e : SequenceElement) → (lower_field e).type_ref ≡ resolve_type_ref e.type_name
unfolding lower_field
field-reference e = refl

pub variant-reference : (v : ChoiceVariant) → (lower_variant v).type_ref ≡ resolve_type_ref v.type_name
unfolding lower_variant
variant-reference v = refl

pub attribute-reference : (x : Attribute) → (lower_attribute x).type_ref ≡ resolve_type_ref x.type_name
unfolding lower_attribute
attribute-reference x = refl

-- where it is a name; no contract cites these three and `resolve-builtin`, which docs/DESIGN-PASS.md names
pub field-named : (e : SequenceElement) (t : Text) → (lower_field e).type_ref ≡ TypeRef.named t → t ≡ normalize_type_name e.type_name
unfolding lower_field
field-named e t h = (resolve-named e.type_name t h).0

pub variant-named : (v : ChoiceVariant) (t : Text) → (lower_variant v).type_ref ≡ TypeRef.named t → t ≡ normalize_type_name v.type_name
unfolding lower_variant
variant-named v t h = (resolve-named v.type_name t h).0

pub attribute-named : (x : Attribute) (t : Text) → (lower_attribute x).type_ref ≡ TypeRef.named t → t ≡ normalize_type_name x.type_name
unfolding lower_attribute
attribute-named x t h = (resolve-named x.type_name t h).0

fields-references : (es : List SequenceElement)
    → map (λ (f : FieldDef). f.type_ref) (map lower_field es) ≡ map resolve_type_ref (map (λ (e : SequenceElement). e.type_name) es)
fields-references [] = refl
fields-references (e ∷ es) = rw (field-reference e, fields-references es)

variants-references : (vs : List ChoiceVariant)
    → map (λ (d : VariantDef). d.type_ref) (map lower_variant vs) ≡ map resolve_type_ref (map (λ (v : ChoiceVariant). v.type_name) vs)
variants-references [] = refl
variants-references (v ∷ vs) = rw (variant-reference v, variants-references vs)

attributes-references : (xs : List Attribute)
    → map (λ (d : AttrDef). d.type_ref) (map lower_attribute xs) ≡ map resolve_type_ref (map (λ (x : Attribute). x.type_name) xs)
attributes-references [] = refl
attributes-references (x ∷ xs) = rw (attribute-reference x, attributes-references xs)

-- all references of a lowered content are the type names of the content, resolved, in their order
pub content-references : (event : ℕ) (name : Text) (c : ComplexContent) → references_of (lower_content event name c) ≡ map resolve_type_ref (type_names_in c)
unfolding references_of lower_content type_names_in
content-references event name (ComplexContent.sequence es) = fields-references es
content-references event name (ComplexContent.choice vs) = variants-references vs
content-references event name (ComplexContent.simple_content base xs) = ap (λ (l : List TypeRef). resolve_type_ref base ∷ l) (attributes-references xs)
content-references event name (ComplexContent.any n) = refl
