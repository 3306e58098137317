-- Each row of a state uses as many pairs as its tag and its a say, whatever the texts and numbers are. Assumes nothing.
use mathlib.Core.Path.{◌≡◌, refl}
use mathlib.Core.Bool.{true}
use mathlib.Core.List.{List, [], ◌∷◌, ◌++◌, map}
use mathlib.Core.Option.{some, none}
use Prim.Native.Nat.{ℕ}
use lib.Dec.{leb}
use lib.ListN.{length}
use borrow.Author.Tests.{leb-true}
use Rattle.text.specs.Text.{Text, between}
use Rattle.sheet.specs.Rows.{Row, row}
use Rattle.xsd_types.specs.Types.{Facet, MaxOccurs, SequenceElement, ChoiceVariant, Attribute, Item}
use Rattle.xsd_types.specs.State.{ComplexContentBuilder, Context, State, started}
use Rattle.xsd_types.specs.Rows.{namespace_row, facet_row, occurs_row, element_row, variant_row, attribute_row, simple_type_rows, complex_type_rows, item_rows, items_rows, context_rows, rows_of}
use Rattle.xsd_types.specs.Good.{used_pairs}
use Rattle.xsd_replace.specs.Offsets.{RightPairs}
use Rattle.xsd_replace.specs.Spots.{Paired}

pub paired-append : {rs us : List Row} → Paired rs → Paired us → Paired (rs ++ us)
paired-append Paired.none q = q
paired-append (Paired.more h p) q = Paired.more h (paired-append p q)

pub paired-map : {A : Type 0} (f : A → Row) → ((x : A) → RightPairs (f x)) → (xs : List A) → Paired (map f xs)
paired-map f h [] = Paired.none
paired-map f h (x ∷ xs) = Paired.more (h x) (paired-map f h xs)

pub right-row : (tag : ℕ) (ts : List Text) (a b c : ℕ) → length ts ≡ used_pairs tag a → leb (length ts) 2 ≡ true → RightPairs (row tag ts a b c)
unfolding row
right-row tag ts a b c e h = record { used = e; few = leb-true (length ts) 2 h }

pub right-facet : (f : Facet) → RightPairs (facet_row f)
unfolding facet_row used_pairs between
right-facet (Facet.enumeration v) = right-row _ _ _ _ _ refl refl
right-facet (Facet.pattern v) = right-row _ _ _ _ _ refl refl
right-facet (Facet.min_length n) = right-row _ _ _ _ _ refl refl
right-facet (Facet.max_length n) = right-row _ _ _ _ _ refl refl
right-facet (Facet.min_inclusive v) = right-row _ _ _ _ _ refl refl
right-facet (Facet.max_inclusive v) = right-row _ _ _ _ _ refl refl
right-facet (Facet.total_digits n) = right-row _ _ _ _ _ refl refl
right-facet (Facet.fraction_digits n) = right-row _ _ _ _ _ refl refl

pub right-occurs : (name type_name : Text) (min : ℕ) (max : MaxOccurs) → RightPairs (occurs_row name type_name min max)
unfolding occurs_row used_pairs between
right-occurs name type_name min (MaxOccurs.bounded n) = right-row _ _ _ _ _ refl refl
right-occurs name type_name min MaxOccurs.unbounded = right-row _ _ _ _ _ refl refl

pub right-element : (e : SequenceElement) → RightPairs (element_row e)
unfolding element_row
right-element e = right-occurs e.name e.type_name e.min_occurs e.max_occurs

pub right-variant : (v : ChoiceVariant) → RightPairs (variant_row v)
unfolding variant_row used_pairs between
right-variant v = right-row _ _ _ _ _ refl refl

pub right-attribute : (x : Attribute) → RightPairs (attribute_row x)
unfolding attribute_row used_pairs between
right-attribute x = right-row _ _ _ _ _ refl refl

pub paired-simple : (event : ℕ) (name base : Text) (fs : List Facet) → Paired (simple_type_rows event name base fs)
unfolding simple_type_rows used_pairs between
paired-simple event name base fs = Paired.more (right-row _ _ _ _ _ refl refl) (paired-map facet_row right-facet fs)

pub paired-complex : (event : ℕ) (name : Text) (c : ComplexContentBuilder) → Paired (complex_type_rows event name c)
unfolding complex_type_rows used_pairs between
paired-complex event name ComplexContentBuilder.empty = Paired.more (right-row _ _ _ _ _ refl refl) Paired.none
paired-complex event name (ComplexContentBuilder.sequence es) = Paired.more (right-row _ _ _ _ _ refl refl) (paired-map element_row right-element es)
paired-complex event name (ComplexContentBuilder.choice vs) = Paired.more (right-row _ _ _ _ _ refl refl) (paired-map variant_row right-variant vs)
paired-complex event name (ComplexContentBuilder.simple_content base xs flag) = Paired.more (right-row _ _ _ _ _ refl refl) (paired-map attribute_row right-attribute xs)
paired-complex event name (ComplexContentBuilder.any none) = Paired.more (right-row _ _ _ _ _ refl refl) Paired.none
paired-complex event name (ComplexContentBuilder.any (some n)) = Paired.more (right-row _ _ _ _ _ refl refl) Paired.none

pub paired-item : (i : Item) → Paired (item_rows i)
unfolding item_rows used_pairs between
paired-item (Item.element e) = Paired.more (right-row _ _ _ _ _ refl refl) Paired.none
paired-item (Item.simple_type t) = paired-simple t.event t.name t.base t.facets
paired-item (Item.complex_type t) = paired-complex t.event t.name (started t.content)

pub paired-items : (is : List Item) → Paired (items_rows is)
unfolding items_rows
paired-items [] = Paired.none
paired-items (i ∷ is) = paired-append (paired-item i) (paired-items is)

pub paired-context : (c : Context) → Paired (context_rows c)
unfolding context_rows
paired-context Context.no_context = Paired.none
paired-context (Context.in_schema n) = Paired.none
paired-context (Context.in_simple_type t) = paired-simple t.head.event t.head.name t.base t.facets
paired-context (Context.in_complex_type t) = paired-complex t.head.event t.head.name t.content

pub paired-rows : (s : State) → Paired (rows_of s)
unfolding rows_of namespace_row used_pairs between
paired-rows s = Paired.more (right-row _ _ _ _ _ refl refl) (paired-append (paired-items s.reader.schema.items) (paired-context s.reader.context))
