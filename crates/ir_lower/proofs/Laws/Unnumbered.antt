-- Lowering looks at no number: of a schema whose numbers are cleared it gives what it gives of the schema, with the numbers cleared. Assumes nothing.
use Rattle.std.specs.Prelude.{if◌then◌else◌}
use Prim.Native.Nat.{ℕ, ◌+◌}
use mathlib.Core.Path.{◌≡◌, refl, sym, ap, ap₂, ◌∙◌}
use mathlib.Core.Bool.{Bool}
use mathlib.Core.List.{List, [], ◌∷◌, ◌++◌, map, map-append}
use mathlib.Core.Option.{Option, some, none}
use lib.ListN.{length, length-map}
use Rattle.text.specs.Text.{Text}
use Rattle.text.proofs.Laws.Tests.{if-in}
use Rattle.builtin.specs.Builtin.{RustType, map_builtin}
use Rattle.names.specs.Names.{normalize_type_name}
use Rattle.xsd_types.specs.Types.{Element, SimpleType, ComplexContent, ComplexType, Item, Schema, elements, simple_types, complex_types}
use Rattle.xsd_types.specs.Rows.{item_rows}
use Rattle.xsd_types.specs.Unnumbered.{cleared_row, unnumbered_item, unnumbered_schema}
use Rattle.xsd_types.proofs.Laws.Unnumbered.{item-cleared}
use Rattle.ir_types.specs.Types.{TypeDef, RootElement}
use Rattle.ir_types.specs.Unnumbered.{unnumbered_root, unnumbered_type, unnumbered_graph}
use Rattle.xsd_types.specs.Refused.{all_enums, refused_base, refused_item}
use Rattle.ir_lower.specs.Lower.{lower_newtype, lower_simple_type, lower_content, lower_complex_type, any_unknown, with_definition, simple_definitions, finished_definitions}
use Rattle.ir_lower.specs.Lower.{root_of_element, graph_of, lower, unknown_row}
use Rattle.ir_lower.specs.Finished.{simple_name, complex_name}
use Rattle.ir_lower.specs.Repeated.{Head, simple_head, complex_head, heads_of, heads, repeated_row}
use Rattle.ir_lower.specs.Unnumbered.{unnumbered_lowered}

-- the items of a kind
element_as : Element → Element
element_as e = record { name = e.name; type_name = e.type_name; event = 0 }

simple_as : SimpleType → SimpleType
simple_as t = record { name = t.name; base = t.base; facets = t.facets; event = 0 }

complex_as : ComplexType → ComplexType
complex_as t = record { name = t.name; content = t.content; event = 0 }

elements-unnumbered : (is : List Item) → elements (map unnumbered_item is) ≡ map element_as (elements is)
unfolding elements unnumbered_item element_as
elements-unnumbered [] = refl
elements-unnumbered (Item.element e ∷ is) = ap (λ (es : List Element). element_as e ∷ es) (elements-unnumbered is)
elements-unnumbered (Item.simple_type t ∷ is) = elements-unnumbered is
elements-unnumbered (Item.complex_type t ∷ is) = elements-unnumbered is

simples-unnumbered : (is : List Item) → simple_types (map unnumbered_item is) ≡ map simple_as (simple_types is)
unfolding simple_types unnumbered_item simple_as
simples-unnumbered [] = refl
simples-unnumbered (Item.element e ∷ is) = simples-unnumbered is
simples-unnumbered (Item.simple_type t ∷ is) = ap (λ (ts : List SimpleType). simple_as t ∷ ts) (simples-unnumbered is)
simples-unnumbered (Item.complex_type t ∷ is) = simples-unnumbered is

complexes-unnumbered : (is : List Item) → complex_types (map unnumbered_item is) ≡ map complex_as (complex_types is)
unfolding complex_types unnumbered_item complex_as
complexes-unnumbered [] = refl
complexes-unnumbered (Item.element e ∷ is) = complexes-unnumbered is
complexes-unnumbered (Item.simple_type t ∷ is) = complexes-unnumbered is
complexes-unnumbered (Item.complex_type t ∷ is) = ap (λ (ts : List ComplexType). complex_as t ∷ ts) (complexes-unnumbered is)

-- a definition, or the refusal
definition_as : Option TypeDef → Option TypeDef
definition_as none = none
definition_as (some d) = some (unnumbered_type d)

newtype-unnumbered : (t : SimpleType) (o : Option RustType) → definition_as (lower_newtype t o) ≡ lower_newtype (simple_as t) o
unfolding definition_as lower_newtype unnumbered_type simple_as
newtype-unnumbered t none = refl
newtype-unnumbered t (some inner) = refl

simple-unnumbered : (t : SimpleType) → definition_as (lower_simple_type t) ≡ lower_simple_type (simple_as t)
unfolding definition_as lower_simple_type unnumbered_type simple_as
simple-unnumbered t = if-in definition_as (all_enums t.facets) refl (newtype-unnumbered t (map_builtin t.base))

content-unnumbered : (event : ℕ) (name : Text) (c : ComplexContent) → unnumbered_type (lower_content event name c) ≡ lower_content 0 name c
unfolding unnumbered_type lower_content
content-unnumbered event name (ComplexContent.sequence es) = refl
content-unnumbered event name (ComplexContent.choice vs) = refl
content-unnumbered event name (ComplexContent.simple_content base xs) = refl
content-unnumbered event name (ComplexContent.any n) = refl

complex-unnumbered : (t : ComplexType) → unnumbered_type (lower_complex_type t) ≡ lower_complex_type (complex_as t)
unfolding lower_complex_type complex_as
complex-unnumbered t = content-unnumbered t.event (normalize_type_name t.name) t.content

unknown-as : (t : SimpleType) → refused_base (simple_as t) ≡ refused_base t
unfolding refused_base simple_as
unknown-as t = refl

any-unnumbered : (ts : List SimpleType) → any_unknown (map simple_as ts) ≡ any_unknown ts
unfolding any_unknown
any-unnumbered [] = refl
any-unnumbered (t ∷ ts) = rw (unknown-as t, any-unnumbered ts)

with-unnumbered : (o : Option TypeDef) (ds : List TypeDef) → map unnumbered_type (with_definition o ds) ≡ with_definition (definition_as o) (map unnumbered_type ds)
unfolding with_definition definition_as
with-unnumbered none ds = refl
with-unnumbered (some d) ds = refl

simple_definitions-unnumbered : (ts : List SimpleType) → map unnumbered_type (simple_definitions ts) ≡ simple_definitions (map simple_as ts)
unfolding simple_definitions
simple_definitions-unnumbered [] = refl
simple_definitions-unnumbered (t ∷ ts) =
    with-unnumbered (lower_simple_type t) (simple_definitions ts) ∙ ap₂ with_definition (simple-unnumbered t) (simple_definitions-unnumbered ts)

complex_definitions-unnumbered : (ts : List ComplexType) → map unnumbered_type (map lower_complex_type ts) ≡ map lower_complex_type (map complex_as ts)
complex_definitions-unnumbered [] = refl
complex_definitions-unnumbered (t ∷ ts) = ap₂ (λ (d : TypeDef) (ds : List TypeDef). d ∷ ds) (complex-unnumbered t) (complex_definitions-unnumbered ts)

definitions-unnumbered : (s : Schema) → map unnumbered_type (finished_definitions s) ≡ finished_definitions (unnumbered_schema s)
unfolding finished_definitions unnumbered_schema
definitions-unnumbered s =
    let is = s.items in
    map-append unnumbered_type (simple_definitions (simple_types is)) (map lower_complex_type (complex_types is))
    ∙ ap₂ (λ (ds es : List TypeDef). ds ++ es)
    (simple_definitions-unnumbered (simple_types is) ∙ ap simple_definitions (sym (simples-unnumbered is)))
    (complex_definitions-unnumbered (complex_types is) ∙ ap (map lower_complex_type) (sym (complexes-unnumbered is)))

roots-unnumbered : (es : List Element) → map unnumbered_root (map root_of_element es) ≡ map root_of_element (map element_as es)
unfolding unnumbered_root root_of_element element_as
roots-unnumbered [] = refl
roots-unnumbered (e ∷ es) = ap (λ (rs : List RootElement). root_of_element (element_as e) ∷ rs) (roots-unnumbered es)

graph-unnumbered : (s : Schema) → unnumbered_graph (graph_of s) ≡ graph_of (unnumbered_schema s)
unfolding unnumbered_graph graph_of unnumbered_schema
graph-unnumbered s =
    ap₂ (λ (rs : List RootElement) (ds : List TypeDef). record { namespace = s.target_namespace; root_elements = rs; types = ds })
    (roots-unnumbered (elements s.items) ∙ ap (map root_of_element) (sym (elements-unnumbered s.items)))
    (definitions-unnumbered s)

pub lower-unnumbered : (s : Schema) → unnumbered_lowered (lower s) ≡ lower (unnumbered_schema s)
unfolding lower unnumbered_lowered unnumbered_schema
lower-unnumbered s =
    if-in unnumbered_lowered (any_unknown (simple_types s.items)) refl (ap some (graph-unnumbered s))
    ∙ ap (λ (b : Bool). if b then none else some (graph_of (unnumbered_schema s)))
    (sym (ap any_unknown (simples-unnumbered s.items) ∙ any-unnumbered (simple_types s.items)))

-- the place of 13
unknown-unnumbered : (i : Item) → refused_item (unnumbered_item i) ≡ refused_item i
unfolding refused_item unnumbered_item simple_as
unknown-unnumbered (Item.element e) = refl
unknown-unnumbered (Item.simple_type t) = unknown-as t
unknown-unnumbered (Item.complex_type t) = refl

long-unnumbered : (i : Item) → length (item_rows (unnumbered_item i)) ≡ length (item_rows i)
long-unnumbered i = ap length (sym (item-cleared i)) ∙ length-map (item_rows i) cleared_row

pub unknown_row-unnumbered : (k : ℕ) (is : List Item) → unknown_row k (map unnumbered_item is) ≡ unknown_row k is
unfolding unknown_row
unknown_row-unnumbered k [] = refl
unknown_row-unnumbered k (i ∷ is) = rw (unknown-unnumbered i, long-unnumbered i, unknown_row-unnumbered (k + length (item_rows i)) is)

-- the place of 20
heads_of-unnumbered : (head : ℕ → Item → List Head) → ((k : ℕ) (i : Item) → head k (unnumbered_item i) ≡ head k i)
    → (k : ℕ) (is : List Item) → heads_of head k (map unnumbered_item is) ≡ heads_of head k is
unfolding heads_of
heads_of-unnumbered head same k [] = refl
heads_of-unnumbered head same k (i ∷ is) = rw (same k i, long-unnumbered i, heads_of-unnumbered head same (k + length (item_rows i)) is)

simple_head-unnumbered : (k : ℕ) (i : Item) → simple_head k (unnumbered_item i) ≡ simple_head k i
unfolding simple_head unnumbered_item simple_name
simple_head-unnumbered k (Item.element e) = refl
simple_head-unnumbered k (Item.simple_type t) = refl
simple_head-unnumbered k (Item.complex_type t) = refl

complex_head-unnumbered : (k : ℕ) (i : Item) → complex_head k (unnumbered_item i) ≡ complex_head k i
unfolding complex_head unnumbered_item complex_name
complex_head-unnumbered k (Item.element e) = refl
complex_head-unnumbered k (Item.simple_type t) = refl
complex_head-unnumbered k (Item.complex_type t) = refl

pub repeated_row-unnumbered : (s : Schema) → repeated_row (unnumbered_schema s) ≡ repeated_row s
unfolding repeated_row heads unnumbered_schema
repeated_row-unnumbered s = rw (heads_of-unnumbered simple_head simple_head-unnumbered 2 s.items, heads_of-unnumbered complex_head complex_head-unnumbered 2 s.items)
