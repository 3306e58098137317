-- The rows of an item are a head with its children, and the item comes back from them. Assumes nothing.
use mathlib.Core.Path.{◌≡◌, refl, ap}
use mathlib.Core.Bool.{Bool, true, false, not}
use mathlib.Core.List.{List, [], ◌∷◌, map}
use mathlib.Core.Option.{some, none}
use Prim.Native.Nat.{ℕ, ◌+◌, ◌*◌, ◌%◌, ◌/◌, ◌^◌}
use native.Mathlib.Omega.{arith}
use lib.Dec.{eqb}
use Rattle.text.specs.Text.{Text, every, between}
use Rattle.sheet.specs.Rows.{Row, row, bit}
use Rattle.xsd_types.specs.Types.{Facet, MaxOccurs, SequenceElement, ChoiceVariant, Attribute, ComplexContent, Item}
use Rattle.xsd_types.specs.State.{ComplexContentBuilder, started, finish}
use Rattle.xsd_types.specs.Rows.{facet_row, occurs_row, element_row, variant_row, attribute_row, simple_type_rows, complex_type_rows, item_rows}
use Rattle.xsd_types.specs.Good.{is_head, is_child}
use Rattle.xsd_types.specs.Back.{text0, text1, facet_of, element_of, variant_of, attribute_of, content_of, item_of}
use Rattle.xsd_types.proofs.Laws.Groups.{is_group, head_tag, as_group}
use Rattle.text.proofs.Laws.Tests.{and-true}
use Rattle.xsd_types.proofs.Laws.Order.{tags, child_of, child-no-head}

pub facet-child : (f : Facet) → is_child 3 (facet_row f).tag ≡ true
unfolding is_child facet_row row between
facet-child (Facet.enumeration v) = refl
facet-child (Facet.pattern v) = refl
facet-child (Facet.min_length n) = refl
facet-child (Facet.max_length n) = refl
facet-child (Facet.min_inclusive v) = refl
facet-child (Facet.max_inclusive v) = refl
facet-child (Facet.total_digits n) = refl
facet-child (Facet.fraction_digits n) = refl

pub occurs-child : (name type_name : Text) (min : ℕ) (max : MaxOccurs) → is_child 12 (occurs_row name type_name min max).tag ≡ true
unfolding is_child occurs_row row between
occurs-child name type_name min (MaxOccurs.bounded n) = refl
occurs-child name type_name min MaxOccurs.unbounded = refl

-- no child is a head
pub facet-no_head : (f : Facet) → is_head (facet_row f).tag ≡ false
facet-no_head f = child-no-head (child_of 3 (facet_row f).tag (facet-child f))

pub element-no_head : (e : SequenceElement) → is_head (element_row e).tag ≡ false
unfolding element_row
element-no_head e =
    let r = occurs_row e.name e.type_name e.min_occurs e.max_occurs in
    child-no-head (child_of 12 r.tag (occurs-child e.name e.type_name e.min_occurs e.max_occurs))

pub variant-no_head : (v : ChoiceVariant) → is_head (variant_row v).tag ≡ false
unfolding variant_row row is_head between
variant-no_head v = refl

pub attribute-no_head : (x : Attribute) → is_head (attribute_row x).tag ≡ false
unfolding attribute_row row is_head between
attribute-no_head x = refl

-- rows made one by one whose tags all pass
pub every-tags : {A : Type 0} (p : ℕ → Bool) (f : A → Row) → ((x : A) → p (f x).tag ≡ true) → (xs : List A) → every p (tags (map f xs)) ≡ true
unfolding every
every-tags p f step [] = refl
every-tags p f step (x ∷ xs) = and-true (step x) (every-tags p f step xs)

pub group-simple : (event : ℕ) (name base : Text) (fs : List Facet) → is_group (simple_type_rows event name base fs) ≡ true
unfolding is_group simple_type_rows row is_head between
group-simple event name base fs = every-tags (is_child 3) facet_row facet-child fs

pub group-complex : (event : ℕ) (name : Text) (c : ComplexContentBuilder) → is_group (complex_type_rows event name c) ≡ true
unfolding is_group complex_type_rows row is_head is_child between every element_row variant_row attribute_row
group-complex event name ComplexContentBuilder.empty = refl
group-complex event name (ComplexContentBuilder.sequence es) = every-tags (is_child 12) element_row (λ e. occurs-child e.name e.type_name e.min_occurs e.max_occurs) es
group-complex event name (ComplexContentBuilder.choice vs) = every-tags (is_child 13) variant_row (λ v. refl) vs
group-complex event name (ComplexContentBuilder.simple_content base xs flag) = every-tags (is_child 14) attribute_row (λ x. refl) xs
group-complex event name (ComplexContentBuilder.any none) = refl
group-complex event name (ComplexContentBuilder.any (some n)) = refl

pub group-item : (i : Item) → is_group (item_rows i) ≡ true
unfolding item_rows is_group row is_head between every
group-item (Item.element e) = refl
group-item (Item.simple_type t) = group-simple t.event t.name t.base t.facets
group-item (Item.complex_type t) = group-complex t.event t.name (started t.content)

-- only content that is still absent has a head 16
pub head-started : (event : ℕ) (name : Text) (c : ComplexContent) → not (eqb (head_tag (complex_type_rows event name (started c))) 16) ≡ true
unfolding complex_type_rows started head_tag row
head-started event name (ComplexContent.sequence es) = refl
head-started event name (ComplexContent.choice vs) = refl
head-started event name (ComplexContent.simple_content base xs) = refl
head-started event name (ComplexContent.any none) = refl
head-started event name (ComplexContent.any (some n)) = refl

pub head-item : (i : Item) → not (eqb (head_tag (item_rows i)) 16) ≡ true
unfolding item_rows simple_type_rows row head_tag
head-item (Item.element e) = refl
head-item (Item.simple_type t) = refl
head-item (Item.complex_type t) = head-started t.event t.name t.content

pub map_back : {A B : Type 0} (f : A → B) (g : B → A) → ((x : A) → g (f x) ≡ x) → (xs : List A) → map g (map f xs) ≡ xs
map_back f g step [] = refl
map_back f g step (x ∷ xs) = rw (step x, map_back f g step xs)

-- the low and the high 32 bits of a number
pub halves : (n : ℕ) → n % 2 ^ 32 + n / 2 ^ 32 * 2 ^ 32 ≡ n
halves n = omega arith

pub facet-back : (f : Facet) → facet_of (facet_row f) ≡ f
unfolding facet_of facet_row row text0
facet-back (Facet.enumeration v) = refl
facet-back (Facet.pattern v) = refl
facet-back (Facet.min_length n) = ap Facet.min_length (halves n)
facet-back (Facet.max_length n) = ap Facet.max_length (halves n)
facet-back (Facet.min_inclusive v) = refl
facet-back (Facet.max_inclusive v) = refl
facet-back (Facet.total_digits n) = refl
facet-back (Facet.fraction_digits n) = refl

pub occurs-back : (name type_name : Text) (min : ℕ) (max : MaxOccurs)
    → element_of (occurs_row name type_name min max) ≡ record { name = name; type_name = type_name; min_occurs = min; max_occurs = max }
unfolding element_of occurs_row row text0 text1
occurs-back name type_name min (MaxOccurs.bounded n) = refl
occurs-back name type_name min MaxOccurs.unbounded = refl

pub element-back : (e : SequenceElement) → element_of (element_row e) ≡ e
unfolding element_row
element-back e = occurs-back e.name e.type_name e.min_occurs e.max_occurs

pub variant_back : (v : ChoiceVariant) → variant_of (variant_row v) ≡ v
unfolding variant_of variant_row row text0 text1
variant_back v = refl

pub bit-back : (b : Bool) → eqb (bit b) 1 ≡ b
unfolding bit
bit-back true = refl
bit-back false = refl

pub attribute-back : (x : Attribute) → attribute_of (attribute_row x) ≡ x
unfolding attribute_of attribute_row row text0 text1
attribute-back x = λ i. record { name = x.name; type_name = x.type_name; required = bit-back x.required i }

-- the content that a group of rows says, where the flag is that of simple content
unfoldable pub flag_in : ComplexContentBuilder → Bool
flag_in ComplexContentBuilder.empty = false
flag_in (ComplexContentBuilder.sequence es) = false
flag_in (ComplexContentBuilder.choice vs) = false
flag_in (ComplexContentBuilder.simple_content base xs flag) = flag
flag_in (ComplexContentBuilder.any n) = false

pub content-back : (event : ℕ) (name : Text) (c : ComplexContentBuilder) → content_of (flag_in c) (as_group (complex_type_rows event name c)) ≡ c
unfolding content_of flag_in as_group complex_type_rows row text1
content-back event name ComplexContentBuilder.empty = refl
content-back event name (ComplexContentBuilder.sequence es) = ap ComplexContentBuilder.sequence (map_back element_row element_of element-back es)
content-back event name (ComplexContentBuilder.choice vs) = ap ComplexContentBuilder.choice (map_back variant_row variant_of variant_back vs)
content-back event name (ComplexContentBuilder.simple_content base xs flag) = ap (λ (l : List Attribute). ComplexContentBuilder.simple_content base l flag)
    (map_back attribute_row attribute_of attribute-back xs)
content-back event name (ComplexContentBuilder.any none) = refl
content-back event name (ComplexContentBuilder.any (some n)) = refl

-- the head of a complex type, whatever it holds
pub complex-head : (event : ℕ) (name : Text) (c : ComplexContentBuilder) → (text0 (as_group (complex_type_rows event name c)).head ≡ name)
    × ((as_group (complex_type_rows event name c)).head.c ≡ event) × (between 12 16 (head_tag (complex_type_rows event name c)) ≡ true)
unfolding as_group head_tag complex_type_rows row text0 between
complex-head event name ComplexContentBuilder.empty = (refl, refl, refl)
complex-head event name (ComplexContentBuilder.sequence es) = (refl, refl, refl)
complex-head event name (ComplexContentBuilder.choice vs) = (refl, refl, refl)
complex-head event name (ComplexContentBuilder.simple_content base xs flag) = (refl, refl, refl)
complex-head event name (ComplexContentBuilder.any none) = (refl, refl, refl)
complex-head event name (ComplexContentBuilder.any (some n)) = (refl, refl, refl)

pub name_back : (event : ℕ) (name : Text) (c : ComplexContentBuilder) → text0 (as_group (complex_type_rows event name c)).head ≡ name
name_back event name c = (complex-head event name c).0

pub event-back : (event : ℕ) (name : Text) (c : ComplexContentBuilder) → (as_group (complex_type_rows event name c)).head.c ≡ event
event-back event name c = (complex-head event name c).1

pub head-complex : (event : ℕ) (name : Text) (c : ComplexContentBuilder) → between 12 16 (head_tag (complex_type_rows event name c)) ≡ true
head-complex event name c = (complex-head event name c).2

unfoldable pub finished : ℕ → Text → ComplexContentBuilder → Item
finished event name c = Item.complex_type (record { name = name; content = finish c; event = event })

pub complex-back : (event : ℕ) (name : Text) (c : ComplexContent)
    → item_of (as_group (complex_type_rows event name (started c))) ≡ Item.complex_type (record { name = name; content = c; event = event })
unfolding item_of complex_type_rows started finish finished flag_in as_group row text0
complex-back event name (ComplexContent.sequence es) = ap (finished event name) (content-back event name (ComplexContentBuilder.sequence es))
complex-back event name (ComplexContent.choice vs) = ap (finished event name) (content-back event name (ComplexContentBuilder.choice vs))
complex-back event name (ComplexContent.simple_content base xs) = ap (finished event name) (content-back event name (ComplexContentBuilder.simple_content base xs false))
complex-back event name (ComplexContent.any none) = ap (finished event name) (content-back event name (ComplexContentBuilder.any none))
complex-back event name (ComplexContent.any (some n)) = ap (finished event name) (content-back event name (ComplexContentBuilder.any (some n)))

pub item_back : (i : Item) → item_of (as_group (item_rows i)) ≡ i
unfolding item_of item_rows simple_type_rows as_group row text0 text1
item_back (Item.element e) = refl
item_back (Item.simple_type t) = ap (λ (fs : List Facet). Item.simple_type (record { name = t.name; base = t.base; facets = fs; event = t.event })) (map_back facet_row facet_of facet-back t.facets)
item_back (Item.complex_type t) = complex-back t.event t.name t.content
