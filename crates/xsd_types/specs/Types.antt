-- The schema: 002 (xsd/types.rs), with its names.
--     Element, Facet, SimpleType, MaxOccurs, SequenceElement, ChoiceVariant, Attribute, ComplexContent, ComplexType    as in 002
--     event         of an element or a type: the number in the run of the event that gave it its name, 0 where it is unknown (order 5)
--     Item          a finished top-level item
--     Schema        the target namespace and the items in order of arrival. 002 keeps three lists, which are the items of each kind:
--                   elements, simple_types, complex_types
use Rattle.std.specs.Prelude.{ℕ, List, [], ◌∷◌, Bool}
use Rattle.std.proofs.Math.Option.{Option}
use Rattle.text.specs.Text.{Text}

pub record Element : Type 0 where
  pub name : Text
  pub type_name : Text
  pub event : ℕ

pub data Facet : Type 0 where
  enumeration pattern : Text → Facet
  min_length max_length : ℕ → Facet
  min_inclusive max_inclusive : Text → Facet
  total_digits fraction_digits : ℕ → Facet

-- 002's SimpleType and Restriction in one
pub record SimpleType : Type 0 where
  pub name : Text
  pub base : Text
  pub facets : List Facet
  pub event : ℕ

pub data MaxOccurs : Type 0 where
  bounded : ℕ → MaxOccurs
  unbounded : MaxOccurs

pub record SequenceElement : Type 0 where
  pub name : Text
  pub type_name : Text
  pub min_occurs : ℕ
  pub max_occurs : MaxOccurs

pub record ChoiceVariant : Type 0 where
  pub name : Text
  pub type_name : Text

pub record Attribute : Type 0 where
  pub name : Text
  pub type_name : Text
  pub required : Bool

pub data ComplexContent : Type 0 where
  sequence : List SequenceElement → ComplexContent
  choice : List ChoiceVariant → ComplexContent
  simple_content : Text → List Attribute → ComplexContent
  any : Option Text → ComplexContent

pub record ComplexType : Type 0 where
  pub name : Text
  pub content : ComplexContent
  pub event : ℕ

pub data Item : Type 0 where
  element : Element → Item
  simple_type : SimpleType → Item
  complex_type : ComplexType → Item

pub record Schema : Type 0 where
  pub target_namespace : Text
  pub items : List Item

unfoldable pub elements : List Item → List Element
elements [] = []
elements (element e ∷ is) = e ∷ elements is
elements (simple_type t ∷ is) = elements is
elements (complex_type t ∷ is) = elements is

unfoldable pub simple_types : List Item → List SimpleType
simple_types [] = []
simple_types (element e ∷ is) = simple_types is
simple_types (simple_type t ∷ is) = t ∷ simple_types is
simple_types (complex_type t ∷ is) = simple_types is

unfoldable pub complex_types : List Item → List ComplexType
complex_types [] = []
complex_types (element e ∷ is) = complex_types is
complex_types (simple_type t ∷ is) = complex_types is
complex_types (complex_type t ∷ is) = t ∷ complex_types is
