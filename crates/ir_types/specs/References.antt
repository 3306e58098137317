-- Which rows of a graph have a type reference, and what their label is. Paper 01: "The label call gives a row's type reference: a part of the graph's names or a
-- part of the word list"; rows of other tags give 16.
--     type_references, types_references    for each row of a definition, of all, in order: its reference, where it has one
--     graph_references    for each row of a graph behind row 0
--     LabelOf names words o l    the label l of a row whose reference is o
--     GraphLabels g x words    the labels of the rows of a sheet x are those of the graph g
use Rattle.std.specs.Prelude.{ℕ, suc, ◌+◌, ◌≤◌, ◌<◌, ◌≡◌, List, [], ◌∷◌, ◌++◌, map, false, length, get_or}
use Rattle.std.proofs.Math.Option.{Option, some, none}
use Rattle.text.specs.Text.{Text}
use Rattle.builtin.specs.Builtin.{RustType, rust_type_number}
use Rattle.sheet.specs.Rows.{Sheet, text_at}
use Rattle.ir_types.specs.Types.{TypeRef, FieldDef, VariantDef, Constraint, CodeValue, AttrDef, TypeDef, RootElement, TypeGraph}
use Rattle.ir_types.specs.Label.{Labelled, no_label, word_label, label}
use Rattle.ir_types.specs.Rows.{rows_of}

-- a field's, variant's, value's, attribute's or newtype's row has one
unfoldable pub type_references : TypeDef → List (Option TypeRef)
type_references (TypeDef.struct event n fs) = none ∷ map (λ (f : FieldDef). some f.type_ref) fs
type_references (TypeDef.enum event n vs) = none ∷ map (λ (v : VariantDef). some v.type_ref) vs
type_references (TypeDef.newtype event n i cs) = some (TypeRef.builtin i) ∷ map (λ (c : Constraint). none) cs
type_references (TypeDef.code_enum event n cs) = none ∷ map (λ (c : CodeValue). none) cs
type_references (TypeDef.value_with_attr event n v xs) = some v ∷ map (λ (x : AttrDef). some x.type_ref) xs
type_references (TypeDef.opaque event n ns) = none ∷ []

unfoldable pub types_references : List TypeDef → List (Option TypeRef)
types_references [] = []
types_references (d ∷ ds) = type_references d ++ types_references ds

unfoldable pub graph_references : TypeGraph → List (Option TypeRef)
graph_references g = none ∷ (map (λ (e : RootElement). none) g.root_elements ++ types_references g.types)

pub data LabelOf (names words : List ℕ) : Option TypeRef → Labelled → Type 0 where
  -- 16: "the label is the empty part at the start of names"
  no_reference : LabelOf names words none no_label
  -- "named (the pair, normalised)"
  named : {n : Text} (at : ℕ) → at + length n ≤ length names → text_at names at (length n) ≡ n
      → LabelOf names words (some (TypeRef.named n)) (record { number = 0; in_words = false; at = at; text = n })
  -- "there it is word a, from 1": "1 String, 2 Bool, 3 Decimal, 4 Date, 5 DateTime"; 16 where the word list is bad
  built_in : (t : RustType) → LabelOf names words (some (TypeRef.builtin t)) (word_label words (rust_type_number t))

-- the labels of all rows of a graph's sheet: each row's own reference, and 16 for row 0 and the rows past those used
pub record GraphLabels (g : TypeGraph) (x : Sheet) (words : List ℕ) : Type 0 where
  pub of : (k : ℕ) → k < length (rows_of g) → LabelOf x.names words (get_or (graph_references g) k none) (label x.rows x.names words (suc k))
  pub first : label x.rows x.names words 0 ≡ no_label
  pub past : (k : ℕ) → length (rows_of g) < k → label x.rows x.names words k ≡ no_label
