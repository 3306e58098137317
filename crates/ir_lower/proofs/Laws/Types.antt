-- The types of a lowered graph: those of all finished types in lowering's order, under their normalised names. Assumes nothing.
use Rattle.std.specs.Prelude.{if◌then◌else◌}
use mathlib.Core.Path.{◌≡◌, refl, sym, ap, ◌∙◌}
use mathlib.Core.Bool.{true, false, true≢false}
use mathlib.Core.List.{List, [], ◌∷◌, map, map-append}
use mathlib.Core.Option.{Option, some, none, some-injective}
use Prim.Native.Nat.{ℕ}
use native.Mathlib.Omega.{arith}
use Rattle.text.specs.Text.{Text}
use Rattle.text.proofs.Laws.Tests.{or-false-left, or-false-right}
use Rattle.names.specs.Names.{normalize_type_name}
use Rattle.builtin.specs.Builtin.{RustType, map_builtin}
use Rattle.xsd_types.specs.Types.{SimpleType, ComplexContent, ComplexType, Schema, elements, simple_types, complex_types}
use Rattle.ir_types.specs.Types.{TypeDef, TypeGraph, name_of}
use Rattle.ir_types.specs.Distinct.{type_names}
use Rattle.xsd_types.specs.Refused.{all_enums, is_none, refused_base}
use Rattle.ir_lower.proofs.Laws.Refusals.{refused-base}
use Rattle.ir_lower.specs.Lower.{codes, lower_newtype, lower_simple_type, lower_content, lower_complex_type, any_unknown}
use Rattle.ir_lower.specs.Lower.{with_definition, simple_definitions, finished_definitions, root_of_element, graph_of, lower}
use Rattle.ir_lower.specs.Finished.{simple_name, complex_name, finished_names}

-- an accepted schema has no refused simple type, and its graph has all its types
pub lower-some : (s : Schema) (g : TypeGraph) → lower s ≡ some g → (any_unknown (simple_types s.items) ≡ false) × (graph_of s ≡ g)
unfolding lower
lower-some s g e =
    (elim (any_unknown (simple_types s.items))
    as (λ b. (if b then none else some (graph_of s)) ≡ some g → (b ≡ false) × (graph_of s ≡ g))
    [ true ↦ λ k. let z : ◌≡◌ {A = ℕ} 0 1 = cc in absurd (omega arith) | false ↦ λ k. (refl, some-injective _ _ k) ]) e

pub lower-namespace : (s : Schema) (g : TypeGraph) → lower s ≡ some g → g.namespace ≡ s.target_namespace
unfolding graph_of
lower-namespace s g e = ap (λ (x : TypeGraph). x.namespace) (sym (lower-some s g e).1)

pub lower-roots : (s : Schema) (g : TypeGraph) → lower s ≡ some g → g.root_elements ≡ map root_of_element (elements s.items)
unfolding graph_of
lower-roots s g e = ap (λ (x : TypeGraph). x.root_elements) (sym (lower-some s g e).1)

pub lower-types : (s : Schema) (g : TypeGraph) → lower s ≡ some g → g.types ≡ finished_definitions s
unfolding graph_of
lower-types s g e = ap (λ (x : TypeGraph). x.types) (sym (lower-some s g e).1)

-- ---- the names

newtype-name : (t : SimpleType) (o : Option RustType) (d : TypeDef) → lower_newtype t o ≡ some d → name_of d ≡ simple_name t
unfolding lower_newtype simple_name name_of
newtype-name t none d e = let z : ◌≡◌ {A = ℕ} 0 1 = cc in absurd (omega arith)
newtype-name t (some inner) d e = let q = some-injective _ _ e in rw (← q)

simple-name : (t : SimpleType) (d : TypeDef) → lower_simple_type t ≡ some d → name_of d ≡ simple_name t
unfolding lower_simple_type simple_name name_of
simple-name t d e =
    (elim (all_enums t.facets)
    as (λ b. (if b then some (TypeDef.code_enum t.event (normalize_type_name t.name) (codes t.facets)) else lower_newtype t (map_builtin t.base)) ≡ some d
    → name_of d ≡ normalize_type_name t.name) [
      | true ↦ λ k. let q = some-injective _ _ k in rw (← q)
      | false ↦ λ k. newtype-name t (map_builtin t.base) d k
    ]) e

content-name : (event : ℕ) (n : Text) (c : ComplexContent) → name_of (lower_content event n c) ≡ n
unfolding name_of lower_content
content-name event n (ComplexContent.sequence es) = refl
content-name event n (ComplexContent.choice vs) = refl
content-name event n (ComplexContent.simple_content base xs) = refl
content-name event n (ComplexContent.any ns) = refl

simple-names : (ts : List SimpleType) → any_unknown ts ≡ false → type_names (simple_definitions ts) ≡ map simple_name ts
unfolding any_unknown simple_definitions with_definition type_names is_none
simple-names [] u = refl
simple-names (t ∷ ts) u =
    (elim (lower_simple_type t) as (λ o. lower_simple_type t ≡ o → is_none o ≡ false → map name_of (with_definition o (simple_definitions ts)) ≡ simple_name t ∷ map simple_name ts) [
      | none ↦ λ q k. absurd (true≢false k)
      | some d ↦ λ q k. rw (simple-name t d q, simple-names ts (or-false-right (refused_base t) (any_unknown ts) u))
    ]) refl (refused-base t ∙ or-false-left (refused_base t) (any_unknown ts) u)

complex-names : (ts : List ComplexType) → type_names (map lower_complex_type ts) ≡ map complex_name ts
unfolding type_names lower_complex_type complex_name
complex-names [] = refl
complex-names (t ∷ ts) = rw (content-name t.event (normalize_type_name t.name) t.content, complex-names ts)

pub lower-names : (s : Schema) (g : TypeGraph) → lower s ≡ some g → type_names g.types ≡ finished_names s
unfolding finished_definitions finished_names type_names
lower-names s g e =
    rw (lower-types s g e)
    (map-append name_of (simple_definitions (simple_types s.items)) (map lower_complex_type (complex_types s.items))
    ∙ rw (simple-names (simple_types s.items) (lower-some s g e).0, complex-names (complex_types s.items)))
