-- Each definition of a lowered graph is that of a finished type, and its named references are normalised type names.
-- Assumes nothing.
use Rattle.std.specs.Prelude.{if◌then◌else◌}
use Prim.Native.Nat.{ℕ}
use mathlib.Core.Path.{◌≡◌, refl, sym, ap, ◌∙◌}
use mathlib.Core.Logic.{◌⊎◌, inl, inr, ⊎_elim}
use mathlib.Core.Bool.{true, false}
use mathlib.Core.List.Memᴰ
use mathlib.Core.List.{List, [], ◌∷◌, map, Memᴰ}
use mathlib.Core.Option.{Option, some, none, some-injective}
use native.Mathlib.Omega.{arith}
use lib.ListN.{get_or, get_or-map}
use Rattle.text.specs.Text.{Text}
use Rattle.builtin.specs.Builtin.{RustType, map_builtin}
use Rattle.names.specs.Names.{normalize_type_name}
use Rattle.xsd_types.specs.Types.{SimpleType, ComplexContent, ComplexType, Schema, simple_types, complex_types}
use Rattle.ir_types.specs.Types.{TypeRef, TypeDef, TypeGraph}
use Rattle.xsd_types.specs.Refused.{all_enums}
use Rattle.ir_lower.specs.Lower.{resolve_type_ref, codes, lower_newtype, lower_simple_type, lower_content, lower_complex_type, with_definition, simple_definitions, finished_definitions, lower}
use Rattle.ir_lower.specs.Finished.{references_of, type_names_in}
use Rattle.ir_lower.proofs.Laws.References.{resolve-named, content-references}
use Rattle.ir_lower.proofs.Laws.Types.{lower-types}

-- a simple type of the list that has this definition
abbrev Simple : TypeDef → List SimpleType → Type 0
Simple d ts = (t : SimpleType) × Memᴰ t ts × (lower_simple_type t ≡ some d)

simple-behind : (d : TypeDef) (t : SimpleType) (ts : List SimpleType) → Simple d ts → Simple d (t ∷ ts)
simple-behind d t ts r = (r.0, Memᴰ.tail r.1, r.2)

simple-first : (d c : TypeDef) (t : SimpleType) (ts : List SimpleType) (ds : List TypeDef) → lower_simple_type t ≡ some c → (Memᴰ d ds → Simple d ts) → Memᴰ d (c ∷ ds) → Simple d (t ∷ ts)
simple-first d c t ts ds q f m =
    ⊎_elim (λ p. (t, Memᴰ.head refl, q ∙ ap (λ (x : TypeDef). some x) (sym p))) (λ j. simple-behind d t ts (f j)) (Memᴰ.cases_cons m)

simple-member : (d : TypeDef) (ts : List SimpleType) → Memᴰ d (simple_definitions ts) → Simple d ts
unfolding simple_definitions with_definition
simple-member d [] m = elim m [ ]
simple-member d (t ∷ ts) m =
    (elim (lower_simple_type t) as (λ o. lower_simple_type t ≡ o → Memᴰ d (with_definition o (simple_definitions ts)) → Simple d (t ∷ ts)) [
      | none ↦ λ q k. simple-behind d t ts (simple-member d ts k)
      | some c ↦ λ q k. simple-first d c t ts (simple_definitions ts) q (simple-member d ts) k
    ]) refl m

complex-member : (d : TypeDef) (ts : List ComplexType) → Memᴰ d (map lower_complex_type ts) → (t : ComplexType) × Memᴰ t ts × (d ≡ lower_complex_type t)
complex-member d [] m = elim m [ ]
complex-member d (t ∷ ts) m =
    ⊎_elim (λ p. (t, Memᴰ.head refl, p))
    (λ j. let r = complex-member d ts j in (r.0, Memᴰ.tail r.1, r.2))
    (Memᴰ.cases_cons m)

-- each definition is that of a finished type
pub lower-member : (s : Schema) (g : TypeGraph) (d : TypeDef) → lower s ≡ some g → Memᴰ d g.types
    → ((t : SimpleType) × Memᴰ t (simple_types s.items) × (lower_simple_type t ≡ some d)) ⊎ ((t : ComplexType) × Memᴰ t (complex_types s.items) × (d ≡ lower_complex_type t))
unfolding finished_definitions
lower-member s g d e m =
    ⊎_elim (λ j. inl (simple-member d (simple_types s.items) j)) (λ j. inr (complex-member d (complex_types s.items) j))
    (Memᴰ.append_cases (simple_definitions (simple_types s.items)) (rw (lower-types s g e) at m))

-- ---- references

newtype-references : (t : SimpleType) (o : Option RustType) (d : TypeDef) → lower_newtype t o ≡ some d → references_of d ≡ []
unfolding lower_newtype references_of
newtype-references t none d e = let z : ◌≡◌ {A = ℕ} 0 1 = cc in absurd (omega arith)
newtype-references t (some inner) d e = let q = some-injective _ _ e in rw (← q)

-- a simple type's definition refers to nothing
pub simple-references : (t : SimpleType) (d : TypeDef) → lower_simple_type t ≡ some d → references_of d ≡ []
unfolding lower_simple_type references_of
simple-references t d e =
    (elim (all_enums t.facets)
    as (λ b. (if b then some (TypeDef.code_enum t.event (normalize_type_name t.name) (codes t.facets)) else lower_newtype t (map_builtin t.base)) ≡ some d → references_of d ≡ []) [
      | true ↦ λ k. let q = some-injective _ _ k in rw (← q)
      | false ↦ λ k. newtype-references t (map_builtin t.base) d k
    ]) e

-- a complex type's named references, place by place
pub content-named : (event : ℕ) (name : Text) (c : ComplexContent) (i : ℕ) (t : Text) → get_or (references_of (lower_content event name c)) i (resolve_type_ref []) ≡ TypeRef.named t
    → (t ≡ normalize_type_name (get_or (type_names_in c) i [])) × (map_builtin (get_or (type_names_in c) i []) ≡ none)
content-named event name c i t e =
    let at : get_or (references_of (lower_content event name c)) i (resolve_type_ref []) ≡ resolve_type_ref (get_or (type_names_in c) i []) =
    rw (content-references event name c) (get_or-map resolve_type_ref (type_names_in c) i []) in
    resolve-named (get_or (type_names_in c) i []) t (sym at ∙ e)
