-- The type graph: 003 (ir/types.rs), with its names. `RustType` is in the crate `builtin`.
--     TypeRef, Cardinality, FieldDef, VariantDef, Constraint, CodeValue, AttrDef, TypeDef, RootElement, TypeGraph    as in 003
--     name_of        a definition's name (003, `TypeDef::name`)
use Rattle.std.specs.Prelude.{ℕ, List, Bool}
use Rattle.std.proofs.Math.Option.{Option}
use Rattle.text.specs.Text.{Text}
use Rattle.builtin.specs.Builtin.{RustType}

pub data TypeRef : Type 0 where
  named : Text → TypeRef
  builtin : RustType → TypeRef

pub data Cardinality : Type 0 where
  required : Cardinality
  optional : Cardinality
  vec : Cardinality
  bounded_vec : ℕ → Cardinality

pub record FieldDef : Type 0 where
  pub xml_name : Text
  pub rust_name : Text
  pub type_ref : TypeRef
  pub cardinality : Cardinality

pub record VariantDef : Type 0 where
  pub xml_name : Text
  pub rust_name : Text
  pub type_ref : TypeRef

pub data Constraint : Type 0 where
  pattern : Text → Constraint
  min_length max_length : ℕ → Constraint
  min_inclusive max_inclusive : Text → Constraint
  total_digits fraction_digits : ℕ → Constraint

pub record CodeValue : Type 0 where
  pub xml_value : Text
  pub rust_name : Text

pub record AttrDef : Type 0 where
  pub xml_name : Text
  pub rust_name : Text
  pub type_ref : TypeRef
  pub required : Bool

-- a definition begins with the number of the event that gave it its name, which a root has too (order 5)
pub data TypeDef : Type 0 where
  struct : ℕ → Text → List FieldDef → TypeDef
  enum : ℕ → Text → List VariantDef → TypeDef
  newtype : ℕ → Text → RustType → List Constraint → TypeDef
  code_enum : ℕ → Text → List CodeValue → TypeDef
  value_with_attr : ℕ → Text → TypeRef → List AttrDef → TypeDef
  opaque : ℕ → Text → Option Text → TypeDef

pub record RootElement : Type 0 where
  pub xml_name : Text
  pub type_name : Text
  pub event : ℕ

pub record TypeGraph : Type 0 where
  pub namespace : Text
  pub root_elements : List RootElement
  pub types : List TypeDef

unfoldable pub name_of : TypeDef → Text
name_of (TypeDef.struct event n fs) = n
name_of (TypeDef.enum event n vs) = n
name_of (TypeDef.newtype event n i cs) = n
name_of (TypeDef.code_enum event n cs) = n
name_of (TypeDef.value_with_attr event n v xs) = n
name_of (TypeDef.opaque event n ns) = n
