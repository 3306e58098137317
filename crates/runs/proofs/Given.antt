-- Order 5 in the graph: lowering takes names and numbers of roots and types from the schema's heads, a type's name normalised, so that what the heads of a state pass
-- its graph passes too. Assumes nothing.
use Prim.Native.Nat.{ℕ}
use mathlib.Core.Path.{◌≡◌, refl}
use mathlib.Core.Bool.{Bool, true}
use mathlib.Core.List.{List, [], ◌∷◌, ◌++◌, map}
use mathlib.Core.Option.{Option, some, none}
use native.Mathlib.Omega.{arith}
use Rattle.text.specs.Text.{Text, every}
use Rattle.std.proofs.lemmas.Bool.{and_parts}
use Rattle.text.proofs.Laws.Tests.{and-true, bool_cases}
use Rattle.builtin.specs.Builtin.{RustType, map_builtin}
use Rattle.names.specs.Names.{normalize_type_name}
use Rattle.xsd_types.specs.Types.{SimpleType, ComplexContent, Item, Schema, elements, simple_types, complex_types}
use Rattle.xsd_types.specs.State.{Reader, item_passes, heads_pass}
use Rattle.xsd_types.specs.Refused.{all_enums}
use Rattle.xsd_types.proofs.Laws.Events.{passing-parts}
use Rattle.ir_types.specs.Types.{TypeDef, RootElement, TypeGraph, name_of}
use Rattle.ir_lower.specs.Lower.{lower_newtype, lower_simple_type, lower_content, lower_complex_type, any_unknown, with_definition}
use Rattle.ir_lower.specs.Lower.{simple_definitions, finished_definitions, root_of_element, graph_of, lower}
use Rattle.runs.specs.Given.{type_event, TypePasses, TypesPass, GraphPasses}

module _ (p : Text → ℕ → Bool) where
  abbrev Items : List Item → Type 0
  Items is = every (item_passes p) is ≡ true

  roots-pass : (is : List Item) → Items is → every (λ (r : RootElement). p r.xml_name r.event) (map root_of_element (elements is)) ≡ true
  unfolding every item_passes elements root_of_element
  roots-pass [] h = refl
  roots-pass (Item.element e ∷ is) h = let w = and_parts (p e.name e.event) _ h in and-true w.0 (roots-pass is w.1)
  roots-pass (Item.simple_type t ∷ is) h = roots-pass is (and_parts (p t.name t.event) _ h).1
  roots-pass (Item.complex_type t ∷ is) h = roots-pass is (and_parts (p t.name t.event) _ h).1

  newtype-passes : (t : SimpleType) (o : Option RustType) (ds : List TypeDef) → p t.name t.event ≡ true → TypesPass p ds → TypesPass p (with_definition (lower_newtype t o) ds)
  unfolding with_definition lower_newtype name_of type_event
  newtype-passes t none ds h on = on
  newtype-passes t (some inner) ds h on = TypesPass.more (record { name = t.name; normal = refl; passes = h }) on

  simple-passes : (t : SimpleType) (ds : List TypeDef) → p t.name t.event ≡ true → TypesPass p ds → TypesPass p (with_definition (lower_simple_type t) ds)
  unfolding with_definition lower_simple_type name_of type_event
  simple-passes t ds h on =
      bool_cases (all_enums t.facets)
      (λ a. rw a (TypesPass.more (record { name = t.name; normal = refl; passes = h }) on))
      (λ a. rw a (newtype-passes t (map_builtin t.base) ds h on))

  content-passes : (event : ℕ) (name : Text) (c : ComplexContent) → p name event ≡ true → TypePasses p (lower_content event (normalize_type_name name) c)
  unfolding lower_content name_of type_event
  content-passes event name (ComplexContent.sequence es) h = record { name = name; normal = refl; passes = h }
  content-passes event name (ComplexContent.choice vs) h = record { name = name; normal = refl; passes = h }
  content-passes event name (ComplexContent.simple_content base xs) h = record { name = name; normal = refl; passes = h }
  content-passes event name (ComplexContent.any n) h = record { name = name; normal = refl; passes = h }

  simples-pass : (is : List Item) → Items is → TypesPass p (simple_definitions (simple_types is))
  unfolding every item_passes simple_types simple_definitions
  simples-pass [] h = TypesPass.end
  simples-pass (Item.element e ∷ is) h = simples-pass is (and_parts (p e.name e.event) _ h).1
  simples-pass (Item.simple_type t ∷ is) h = let w = and_parts (p t.name t.event) _ h in simple-passes t _ w.0 (simples-pass is w.1)
  simples-pass (Item.complex_type t ∷ is) h = simples-pass is (and_parts (p t.name t.event) _ h).1

  complexes-pass : (is : List Item) → Items is → TypesPass p (map lower_complex_type (complex_types is))
  unfolding every item_passes complex_types lower_complex_type
  complexes-pass [] h = TypesPass.end
  complexes-pass (Item.element e ∷ is) h = complexes-pass is (and_parts (p e.name e.event) _ h).1
  complexes-pass (Item.simple_type t ∷ is) h = complexes-pass is (and_parts (p t.name t.event) _ h).1
  complexes-pass (Item.complex_type t ∷ is) h =
      let w = and_parts (p t.name t.event) _ h in
      TypesPass.more (content-passes t.event t.name t.content w.0) (complexes-pass is w.1)

  pass-append : {ds : List TypeDef} {es : List TypeDef} → TypesPass p ds → TypesPass p es → TypesPass p (ds ++ es)
  pass-append TypesPass.end w = w
  pass-append (TypesPass.more d on) w = TypesPass.more d (pass-append on w)

  schema-passes : (s : Schema) → Items s.items → GraphPasses p (graph_of s)
  unfolding graph_of finished_definitions
  schema-passes s h = record { roots = roots-pass s.items h; types = pass-append (simples-pass s.items h) (complexes-pass s.items h) }

  pub graph-passes : (r : Reader) (g : TypeGraph) → heads_pass p r ≡ true → lower r.schema ≡ some g → GraphPasses p g
  unfolding lower
  graph-passes r g h e =
      bool_cases (any_unknown (simple_types r.schema.items))
      (λ a. let q : ◌≡◌ {A = Option TypeGraph} none (some g) = rw a at e in let z : ◌≡◌ {A = ℕ} 0 1 = cc in absurd (omega arith))
      (λ a.
      let q : ◌≡◌ {A = Option TypeGraph} (some (graph_of r.schema)) (some g) = rw a at e in
      let same : graph_of r.schema ≡ g = cc in
      rw (← same) (schema-passes r.schema (passing-parts p r h).0))
