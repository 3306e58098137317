-- The rows of a state without numbers are the state's rows with c of every head cleared: tags, texts and all else are the same. Assumes nothing.
use mathlib.Core.Path.{◌≡◌, refl, ap, ◌∙◌}
use mathlib.Core.List.{List, [], ◌∷◌, map, map-append}
use mathlib.Core.Option.{some, none}
use Prim.Native.Nat.{ℕ}
use Rattle.text.specs.Text.{Text, between}
use Rattle.sheet.specs.Rows.{Row, row}
use Rattle.xsd_types.specs.Types.{Facet, MaxOccurs, SequenceElement, Item}
use Rattle.xsd_types.specs.State.{ComplexContentBuilder, Context, State, started}
use Rattle.xsd_types.specs.Rows.{namespace_row, facet_row, occurs_row, element_row, variant_row, attribute_row, simple_type_rows, complex_type_rows, item_rows, items_rows, context_rows, rows_of}
use Rattle.xsd_types.specs.Good.{is_head}
use Rattle.xsd_types.specs.Unnumbered.{cleared_row, unnumbered_item, unnumbered_head, unnumbered_simple, unnumbered_complex, unnumbered_context, unnumbered_schema, unnumbered_reader, unnumbered}

-- rows of children are left
pub kept-all : {A : Type 0} (f : A → Row) → ((x : A) → cleared_row (f x) ≡ f x) → (xs : List A) → map cleared_row (map f xs) ≡ map f xs
kept-all f step [] = refl
kept-all f step (x ∷ xs) = rw (step x, kept-all f step xs)

facet-kept : (f : Facet) → cleared_row (facet_row f) ≡ facet_row f
unfolding cleared_row facet_row row is_head between
facet-kept (Facet.enumeration v) = refl
facet-kept (Facet.pattern v) = refl
facet-kept (Facet.min_length n) = refl
facet-kept (Facet.max_length n) = refl
facet-kept (Facet.min_inclusive v) = refl
facet-kept (Facet.max_inclusive v) = refl
facet-kept (Facet.total_digits n) = refl
facet-kept (Facet.fraction_digits n) = refl

occurs-kept : (name type_name : Text) (min : ℕ) (max : MaxOccurs) → cleared_row (occurs_row name type_name min max) ≡ occurs_row name type_name min max
unfolding cleared_row occurs_row row is_head between
occurs-kept name type_name min (MaxOccurs.bounded n) = refl
occurs-kept name type_name min MaxOccurs.unbounded = refl

element-kept : (e : SequenceElement) → cleared_row (element_row e) ≡ element_row e
unfolding element_row
element-kept e = occurs-kept e.name e.type_name e.min_occurs e.max_occurs

pub simple-cleared : (event : ℕ) (name base : Text) (fs : List Facet) → map cleared_row (simple_type_rows event name base fs) ≡ simple_type_rows 0 name base fs
unfolding simple_type_rows cleared_row row is_head between
simple-cleared event name base fs = ap (λ (rs : List Row). row 3 (name ∷ base ∷ []) 0 0 0 ∷ rs) (kept-all facet_row facet-kept fs)

pub complex-cleared : (event : ℕ) (name : Text) (c : ComplexContentBuilder) → map cleared_row (complex_type_rows event name c) ≡ complex_type_rows 0 name c
unfolding complex_type_rows cleared_row variant_row attribute_row row is_head between
complex-cleared event name ComplexContentBuilder.empty = refl
complex-cleared event name (ComplexContentBuilder.sequence es) = ap (λ (rs : List Row). row 12 (name ∷ []) 0 0 0 ∷ rs) (kept-all element_row element-kept es)
complex-cleared event name (ComplexContentBuilder.choice vs) = ap (λ (rs : List Row). row 13 (name ∷ []) 0 0 0 ∷ rs) (kept-all variant_row (λ v. refl) vs)
complex-cleared event name (ComplexContentBuilder.simple_content base xs flag) = ap (λ (rs : List Row). row 14 (name ∷ base ∷ []) 0 0 0 ∷ rs) (kept-all attribute_row (λ x. refl) xs)
complex-cleared event name (ComplexContentBuilder.any none) = refl
complex-cleared event name (ComplexContentBuilder.any (some n)) = refl

pub item-cleared : (i : Item) → map cleared_row (item_rows i) ≡ item_rows (unnumbered_item i)
unfolding item_rows unnumbered_item cleared_row row is_head between
item-cleared (Item.element e) = refl
item-cleared (Item.simple_type t) = simple-cleared t.event t.name t.base t.facets
item-cleared (Item.complex_type t) = complex-cleared t.event t.name (started t.content)

pub items-cleared : (is : List Item) → map cleared_row (items_rows is) ≡ items_rows (map unnumbered_item is)
unfolding items_rows
items-cleared [] = refl
items-cleared (i ∷ is) = map-append cleared_row (item_rows i) (items_rows is) ∙ rw (item-cleared i, items-cleared is)

pub context-cleared : (c : Context) → map cleared_row (context_rows c) ≡ context_rows (unnumbered_context c)
unfolding context_rows unnumbered_context unnumbered_head unnumbered_simple unnumbered_complex
context-cleared Context.no_context = refl
context-cleared (Context.in_schema n) = refl
context-cleared (Context.in_simple_type t) = simple-cleared t.head.event t.head.name t.base t.facets
context-cleared (Context.in_complex_type t) = complex-cleared t.head.event t.head.name t.content

pub rows-cleared : (s : State) → map cleared_row (rows_of s) ≡ rows_of (unnumbered s)
unfolding rows_of unnumbered unnumbered_reader unnumbered_schema namespace_row cleared_row row is_head between
rows-cleared s =
    ap (λ (rs : List Row). namespace_row s.reader.schema.target_namespace ∷ rs)
    (map-append cleared_row (items_rows s.reader.schema.items) (context_rows s.reader.context) ∙ rw (items-cleared s.reader.schema.items, context-cleared s.reader.context))
