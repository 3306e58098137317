-- Lowering a schema whose texts and numbers are within their widths gives such a graph, where the three name conversions keep texts.
-- Assumes nothing: what is asked of the conversions are the section's parameters.
use Rattle.std.specs.Prelude.{if◌then◌else◌}
use Prim.Native.Nat.{ℕ, ◌^◌}
use mathlib.Core.Path.{◌≡◌, refl}
use mathlib.Core.Bool.{Bool, true, false, ◌&&◌}
use mathlib.Core.List.{List, [], ◌∷◌, map}
use mathlib.Core.Option.{Option, some, none}
use mathlib.Core.Logic.{⊎_elim}
use lib.Dec.{eqb, ltb}
use Rattle.text.specs.Text.{Text, every, is_text, is_graph_text}
use Rattle.builtin.specs.Builtin.{RustType, map_builtin}
use Rattle.names.specs.Names.{normalize_type_name}
use Rattle.xsd_types.specs.Types.{Element, Facet, SimpleType, MaxOccurs, SequenceElement, ChoiceVariant, Attribute, ComplexContent, ComplexType, Item, Schema, elements, simple_types, complex_types}
use Rattle.xsd_types.specs.State.{element_ok, facet_ok, max_occurs_ok, sequence_element_ok, choice_variant_ok, attribute_ok, namespace_ok, content_ok, started, item_ok, schema_ok, item_passes}
use Rattle.ir_types.specs.Types.{TypeDef, TypeGraph}
use Rattle.ir_types.specs.Ok.{is_small, ref_ok, cardinality_ok, field_ok, variant_ok, constraint_ok, code_ok, attr_ok, type_ok, root_ok, graph_ok}
use Rattle.xsd_types.specs.Refused.{all_enums}
use Rattle.ir_lower.specs.Lower.{resolved, resolve_type_ref, codes, constraints, lower_newtype, lower_simple_type, lower_cardinality, lower_field, lower_variant}
use Rattle.ir_lower.specs.Lower.{lower_attribute, lower_content, lower_complex_type, with_definition, simple_definitions, finished_definitions, root_of_element, graph_of, lower}
use Rattle.ir_lower.proofs.Laws.Types.{lower-some}
use Rattle.std.proofs.lemmas.Bool.{cases_Bool}
use Rattle.text.proofs.Laws.Tests.{and-true-left, and-true-right, keep_left, and-true}
use Rattle.text.proofs.Laws.Every.{every-append-true, every_map, every-both}
use Rattle.text.proofs.Laws.Class.{text-in-graph}
use Rattle.names.proofs.Laws.Names.{normalize-text, snake-text, pascal-text}

-- ---- texts of a graph

graph-then : (v : Text) (b c : Bool) → is_text v && b ≡ true → (b ≡ true → c ≡ true) → is_graph_text v && c ≡ true
graph-then v b c h f = and-true (text-in-graph v (and-true-left (is_text v) b h)) (f (and-true-right (is_text v) b h))

-- ---- what needs no conversion

cardinality-ok : (min : ℕ) (max : MaxOccurs) → max_occurs_ok max ≡ true → cardinality_ok (lower_cardinality min max) ≡ true
unfolding lower_cardinality cardinality_ok max_occurs_ok
cardinality-ok min MaxOccurs.unbounded h = refl
cardinality-ok min (MaxOccurs.bounded n) h =
    ⊎_elim (λ k. rw k (and-true k h))
    (λ k. rw k (⊎_elim (λ e. rw e) (λ e. rw e) (cases_Bool (eqb min 0 && eqb n 1))))
    (cases_Bool (ltb 1 n))

constraints-ok : (fs : List Facet) → every facet_ok fs ≡ true → every constraint_ok (constraints fs) ≡ true
unfolding every constraints facet_ok constraint_ok
constraints-ok [] h = refl
constraints-ok (Facet.enumeration v ∷ fs) h = constraints-ok fs (and-true-right (is_text v) (every facet_ok fs) h)
constraints-ok (Facet.pattern v ∷ fs) h = graph-then v (every facet_ok fs) _ h (constraints-ok fs)
constraints-ok (Facet.min_length n ∷ fs) h = keep_left (ltb n (2 ^ 64)) (every facet_ok fs) _ h (constraints-ok fs)
constraints-ok (Facet.max_length n ∷ fs) h = keep_left (ltb n (2 ^ 64)) (every facet_ok fs) _ h (constraints-ok fs)
constraints-ok (Facet.min_inclusive v ∷ fs) h = graph-then v (every facet_ok fs) _ h (constraints-ok fs)
constraints-ok (Facet.max_inclusive v ∷ fs) h = graph-then v (every facet_ok fs) _ h (constraints-ok fs)
constraints-ok (Facet.total_digits n ∷ fs) h = keep_left (ltb n (2 ^ 32)) (every facet_ok fs) _ h (constraints-ok fs)
constraints-ok (Facet.fraction_digits n ∷ fs) h = keep_left (ltb n (2 ^ 32)) (every facet_ok fs) _ h (constraints-ok fs)

-- an item within its widths, its event's number too
unfoldable pub small_event : Text → ℕ → Bool
small_event name n = is_small n

unfoldable pub item_fine : Item → Bool
item_fine i = item_passes small_event i && item_ok i

-- what holds of all items holds of those of a kind
module _ (p : Item → Bool) where
  elements-each : (is : List Item) → every p is ≡ true → every (λ (e : Element). p (Item.element e)) (elements is) ≡ true
  unfolding every elements
  elements-each [] h = refl
  elements-each (Item.element e ∷ is) h = keep_left (p (Item.element e)) (every p is) _ h (elements-each is)
  elements-each (Item.simple_type t ∷ is) h = elements-each is (and-true-right (p (Item.simple_type t)) (every p is) h)
  elements-each (Item.complex_type t ∷ is) h = elements-each is (and-true-right (p (Item.complex_type t)) (every p is) h)

  simples-each : (is : List Item) → every p is ≡ true → every (λ (t : SimpleType). p (Item.simple_type t)) (simple_types is) ≡ true
  unfolding every simple_types
  simples-each [] h = refl
  simples-each (Item.element e ∷ is) h = simples-each is (and-true-right (p (Item.element e)) (every p is) h)
  simples-each (Item.simple_type t ∷ is) h = keep_left (p (Item.simple_type t)) (every p is) _ h (simples-each is)
  simples-each (Item.complex_type t ∷ is) h = simples-each is (and-true-right (p (Item.complex_type t)) (every p is) h)

  complexes-each : (is : List Item) → every p is ≡ true → every (λ (t : ComplexType). p (Item.complex_type t)) (complex_types is) ≡ true
  unfolding every complex_types
  complexes-each [] h = refl
  complexes-each (Item.element e ∷ is) h = complexes-each is (and-true-right (p (Item.element e)) (every p is) h)
  complexes-each (Item.simple_type t ∷ is) h = complexes-each is (and-true-right (p (Item.simple_type t)) (every p is) h)
  complexes-each (Item.complex_type t ∷ is) h = keep_left (p (Item.complex_type t)) (every p is) _ h (complexes-each is)

root_ok_lem : (e : Element) → item_fine (Item.element e) ≡ true → root_ok (root_of_element e) ≡ true
unfolding item_fine item_passes small_event item_ok element_ok root_ok root_of_element
root_ok_lem e h =
    keep_left (is_small e.event) (is_text e.name && is_text e.type_name) _ h (λ n. graph-then e.name (is_text e.type_name) _ n (text-in-graph e.type_name))

-- a definition that is there is within its widths
option_ok : Option TypeDef → Bool
option_ok none = true
option_ok (some d) = type_ok d

with-ok : (o : Option TypeDef) (ds : List TypeDef) → option_ok o ≡ true → every type_ok ds ≡ true → every type_ok (with_definition o ds) ≡ true
unfolding with_definition option_ok every
with-ok none ds h k = k
with-ok (some d) ds h k = and-true h k

resolve-ok : (name : Text) → is_text name ≡ true → ref_ok (resolve_type_ref name) ≡ true
unfolding resolve_type_ref resolved ref_ok
resolve-ok name h = elim (map_builtin name) as (λ o. ref_ok (resolved name o) ≡ true) [ none ↦ normalize-text name h | some t ↦ refl ]

field-ok : (e : SequenceElement) → sequence_element_ok e ≡ true → field_ok (lower_field e) ≡ true
unfolding sequence_element_ok field_ok lower_field
field-ok e h =
    let x = is_text e.name in let y = is_text e.type_name in let m = ltb e.min_occurs (2 ^ 32) in let n = max_occurs_ok e.max_occurs in
    let p : x && y ≡ true = and-true-left (x && y) m (and-true-left (x && y && m) n h) in
    let a : x ≡ true = and-true-left x y p in
    rw (text-in-graph e.name a, snake-text e.name a, resolve-ok e.type_name (and-true-right x y p)) (cardinality-ok e.min_occurs e.max_occurs (and-true-right (x && y && m) n h))

variant_ok_lem : (v : ChoiceVariant) → choice_variant_ok v ≡ true → variant_ok (lower_variant v) ≡ true
unfolding choice_variant_ok variant_ok lower_variant
variant_ok_lem v h =
    let a : is_text v.name ≡ true = and-true-left (is_text v.name) (is_text v.type_name) h in
    rw (text-in-graph v.name a) (resolve-ok v.type_name (and-true-right (is_text v.name) (is_text v.type_name) h))

attribute-ok : (x : Attribute) → attribute_ok x ≡ true → attr_ok (lower_attribute x) ≡ true
unfolding attribute_ok attr_ok lower_attribute
attribute-ok x h =
    let a : is_text x.name ≡ true = and-true-left (is_text x.name) (is_text x.type_name) h in
    rw (text-in-graph x.name a, snake-text x.name a) (resolve-ok x.type_name (and-true-right (is_text x.name) (is_text x.type_name) h))

codes-ok : (fs : List Facet) → every facet_ok fs ≡ true → every code_ok (codes fs) ≡ true
unfolding every codes facet_ok code_ok
codes-ok [] h = refl
codes-ok (Facet.enumeration v ∷ fs) h =
    let a : is_text v ≡ true = and-true-left (is_text v) (every facet_ok fs) h in
    rw (text-in-graph v a, pascal-text v a) (codes-ok fs (and-true-right (is_text v) (every facet_ok fs) h))
codes-ok (Facet.pattern v ∷ fs) h = codes-ok fs (and-true-right (is_text v) (every facet_ok fs) h)
codes-ok (Facet.min_length n ∷ fs) h = codes-ok fs (and-true-right (ltb n (2 ^ 64)) (every facet_ok fs) h)
codes-ok (Facet.max_length n ∷ fs) h = codes-ok fs (and-true-right (ltb n (2 ^ 64)) (every facet_ok fs) h)
codes-ok (Facet.min_inclusive v ∷ fs) h = codes-ok fs (and-true-right (is_text v) (every facet_ok fs) h)
codes-ok (Facet.max_inclusive v ∷ fs) h = codes-ok fs (and-true-right (is_text v) (every facet_ok fs) h)
codes-ok (Facet.total_digits n ∷ fs) h = codes-ok fs (and-true-right (ltb n (2 ^ 32)) (every facet_ok fs) h)
codes-ok (Facet.fraction_digits n ∷ fs) h = codes-ok fs (and-true-right (ltb n (2 ^ 32)) (every facet_ok fs) h)

newtype-ok : (t : SimpleType) (o : Option RustType) → is_small t.event ≡ true → is_text t.name ≡ true → every facet_ok t.facets ≡ true → option_ok (lower_newtype t o) ≡ true
unfolding option_ok lower_newtype type_ok
newtype-ok t none s h k = refl
newtype-ok t (some inner) s h k = and-true s (and-true (normalize-text t.name h) (constraints-ok t.facets k))

simple-ok : (t : SimpleType) → item_fine (Item.simple_type t) ≡ true → option_ok (lower_simple_type t) ≡ true
unfolding item_fine item_passes small_event item_ok lower_simple_type option_ok type_ok
simple-ok t g =
    let n = is_text t.name in let b = is_text t.base in let f = every facet_ok t.facets in
    let s : is_small t.event ≡ true = and-true-left (is_small t.event) (n && b && f) g in
    let h = and-true-right (is_small t.event) (n && b && f) g in
    let a : n ≡ true = and-true-left n b (and-true-left (n && b) f h) in
    let k : f ≡ true = and-true-right (n && b) f h in
    elim (all_enums t.facets)
    as (λ c. option_ok (if c then some (TypeDef.code_enum t.event (normalize_type_name t.name) (codes t.facets)) else lower_newtype t (map_builtin t.base)) ≡ true)
    [ true ↦ and-true s (and-true (normalize-text t.name a) (codes-ok t.facets k)) | false ↦ newtype-ok t (map_builtin t.base) s a k ]

simple-definitions-ok : (ts : List SimpleType) → every (λ (t : SimpleType). item_fine (Item.simple_type t)) ts ≡ true → every type_ok (simple_definitions ts) ≡ true
unfolding every simple_definitions
simple-definitions-ok [] h = refl
simple-definitions-ok (t ∷ ts) h =
    let p = item_fine (Item.simple_type t) in let more = every (λ (u : SimpleType). item_fine (Item.simple_type u)) ts in
    with-ok (lower_simple_type t) (simple_definitions ts) (simple-ok t (and-true-left p more h)) (simple-definitions-ok ts (and-true-right p more h))

content-ok : (event : ℕ) (n : Text) (c : ComplexContent) → is_small event ≡ true → is_graph_text n ≡ true → content_ok (started c) ≡ true → type_ok (lower_content event n c) ≡ true
unfolding type_ok lower_content content_ok started namespace_ok
content-ok event n (ComplexContent.sequence es) s h k = and-true s (and-true h (every_map sequence_element_ok field_ok lower_field field-ok es k))
content-ok event n (ComplexContent.choice vs) s h k = and-true s (and-true h (every_map choice_variant_ok variant_ok lower_variant variant_ok_lem vs k))
content-ok event n (ComplexContent.simple_content base xs) s h k =
    and-true s (and-true (and-true h (resolve-ok base (and-true-left (is_text base) (every attribute_ok xs) k)))
    (every_map attribute_ok attr_ok lower_attribute attribute-ok xs (and-true-right (is_text base) (every attribute_ok xs) k)))
content-ok event n (ComplexContent.any none) s h k = and-true s h
content-ok event n (ComplexContent.any (some ns)) s h k = and-true s (and-true h (text-in-graph ns k))

complex-ok : (t : ComplexType) → item_fine (Item.complex_type t) ≡ true → type_ok (lower_complex_type t) ≡ true
unfolding item_fine item_passes small_event item_ok lower_complex_type
complex-ok t g =
    let n = is_text t.name in let c = content_ok (started t.content) in
    let h = and-true-right (is_small t.event) (n && c) g in
    content-ok t.event (normalize_type_name t.name) t.content (and-true-left (is_small t.event) (n && c) g) (normalize-text t.name (and-true-left n c h)) (and-true-right n c h)

finished-ok : (s : Schema) → every item_fine s.items ≡ true → every type_ok (finished_definitions s) ≡ true
unfolding finished_definitions
finished-ok s h =
    every-append-true type_ok (simple_definitions (simple_types s.items)) (map lower_complex_type (complex_types s.items))
    (simple-definitions-ok (simple_types s.items) (simples-each item_fine s.items h))
    (every_map (λ (t : ComplexType). item_fine (Item.complex_type t)) type_ok lower_complex_type complex-ok (complex_types s.items) (complexes-each item_fine s.items h))

pub lower-ok : (s : Schema) (g : TypeGraph) → schema_ok s ≡ true → every (item_passes small_event) s.items ≡ true → lower s ≡ some g → graph_ok g ≡ true
unfolding schema_ok graph_ok every graph_of item_fine
lower-ok s g h w e =
    let k : every item_fine s.items
    ≡ true = every-both (item_passes small_event) item_ok item_fine (λ i x y. and-true x y) s.items w
    (and-true-right (is_text s.target_namespace) (every item_ok s.items) h) in
    let p = lower-some s g e in
    let a : is_graph_text g.namespace ≡ true = rw (← p.1) (text-in-graph s.target_namespace (and-true-left (is_text s.target_namespace) (every item_ok s.items) h)) in
    let b : every root_ok g.root_elements
    ≡ true = rw (← p.1) (every_map (λ (x : Element). item_fine (Item.element x)) root_ok root_of_element root_ok_lem (elements s.items) (elements-each item_fine s.items k)) in
    let c : every type_ok g.types ≡ true = rw (← p.1) (finished-ok s k) in
    rw (a, b, c)
