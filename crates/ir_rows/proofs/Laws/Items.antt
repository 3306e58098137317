-- What lowering's scans make of the rows of finished items: the places of the types, where the first refused one stands, and the elements' rows.
-- Item by item, each a head with its children. Assumes nothing.
use Rattle.std.specs.Prelude.{if◌then◌else◌}
use Prim.Native.Nat.{ℕ, ◌+◌, ◌≤◌}
use mathlib.Core.Path.{◌≡◌, refl, sym, ap, ◌∙◌}
use mathlib.Core.Bool.{Bool, true, false, false≢true}
use mathlib.Core.List.{List, [], ◌∷◌, ◌++◌, map}
use mathlib.Core.Option.{some, none}
use native.Mathlib.Omega.{arith}
use lib.Dec.{eqb}
use lib.ListN.{length}
use Rattle.text.specs.Text.{Text, between}
use Rattle.text.proofs.Laws.Tests.{or-false-left, or-false-right}
use Rattle.sheet.specs.Rows.{Row, row}
use Rattle.xsd_types.specs.Types.{ComplexContent, Item, Schema, elements, simple_types}
use Rattle.xsd_types.specs.State.{started}
use Rattle.xsd_types.specs.Rows.{facet_row, simple_type_rows, complex_type_rows, item_rows, items_rows}
use Rattle.xsd_types.specs.Back.{text0, text1}
use Rattle.xsd_types.specs.Refused.{is_none, refused_base, refused_item, refused_place}
use Rattle.xsd_types.proofs.Laws.Groups.{is_group, head_tag}
use Rattle.xsd_types.proofs.Laws.Items.{group-item}
use Rattle.xsd_types.proofs.Laws.Refused.{head_first-items, simple-refused}
use Rattle.ir_types.specs.Types.{TypeGraph}
use Rattle.ir_types.specs.Rows.{root_row}
use Rattle.ir_lower.specs.Lower.{any_unknown, root_of_element, lower, unknown_row}
use Rattle.ir_lower.proofs.Laws.Refusals.{refusal, refused-exactly, unknown_row-least}
use Rattle.ir_rows.specs.Lowered.{lowered_as, lowered_row, root_rows}
use Rattle.ir_rows.specs.Types.{is_simple, is_complex, places_of}
use Rattle.ir_rows.proofs.Laws.Groups.{simple-heads, complex-heads, places_of-group, root_rows-group, refused_place-group}
use Rattle.xsd_types.proofs.Laws.Counted.{other_row}

-- ---- the places of the types

content-tag : (event : ℕ) (name : Text) (c : ComplexContent) → is_complex (head_tag (complex_type_rows event name (started c))) ≡ true
unfolding is_complex complex_type_rows started head_tag row between
content-tag event name (ComplexContent.sequence es) = refl
content-tag event name (ComplexContent.choice vs) = refl
content-tag event name (ComplexContent.simple_content base xs) = refl
content-tag event name (ComplexContent.any none) = refl
content-tag event name (ComplexContent.any (some n)) = refl

content-others : (event : ℕ) (name : Text) (c : ComplexContent) → (eqb (head_tag (complex_type_rows event name (started c))) 2 ≡ false)
    × (eqb (head_tag (complex_type_rows event name (started c))) 3 ≡ false)
unfolding complex_type_rows started head_tag row
content-others event name (ComplexContent.sequence es) = (refl, refl)
content-others event name (ComplexContent.choice vs) = (refl, refl)
content-others event name (ComplexContent.simple_content base xs) = (refl, refl)
content-others event name (ComplexContent.any none) = (refl, refl)
content-others event name (ComplexContent.any (some n)) = (refl, refl)

-- the kind of an item by its head's tag
unfoldable pub simple_item : Item → Bool
simple_item (Item.element e) = false
simple_item (Item.simple_type t) = true
simple_item (Item.complex_type t) = false

unfoldable pub complex_item : Item → Bool
complex_item (Item.element e) = false
complex_item (Item.simple_type t) = false
complex_item (Item.complex_type t) = true

simple-tag : (i : Item) → is_simple (head_tag (item_rows i)) ≡ simple_item i
unfolding is_simple simple_item item_rows simple_type_rows head_tag row
simple-tag (Item.element e) = refl
simple-tag (Item.simple_type t) = refl
simple-tag (Item.complex_type t) = (content-others t.event t.name t.content).1

complex-tag : (i : Item) → is_complex (head_tag (item_rows i)) ≡ complex_item i
unfolding is_complex complex_item item_rows simple_type_rows head_tag row between
complex-tag (Item.element e) = refl
complex-tag (Item.simple_type t) = refl
complex-tag (Item.complex_type t) = content-tag t.event t.name t.content

-- the places in an item's rows, and then those in the rows behind it
module _ (k : ℕ) (i : Item) (more : List Row) where
  pub simple-places : places_of is_simple k (item_rows i ++ more)
      ≡ (if simple_item i then k ∷ places_of is_simple (k + length (item_rows i)) more else places_of is_simple (k + length (item_rows i)) more)
  simple-places = rw (← simple-tag i) (places_of-group is_simple simple-heads k (item_rows i) more (group-item i))

  pub complex-places : places_of is_complex k (item_rows i ++ more)
      ≡ (if complex_item i then k ∷ places_of is_complex (k + length (item_rows i)) more else places_of is_complex (k + length (item_rows i)) more)
  complex-places = rw (← complex-tag i) (places_of-group is_complex complex-heads k (item_rows i) more (group-item i))

-- ---- the first refused simple type

unknown-other : (k : ℕ) (rs more : List Row) → is_group rs ≡ true → eqb (head_tag rs) 3 ≡ false → refused_place k (rs ++ more) ≡ refused_place (k + length rs) more
unfolding head_tag is_group
unknown-other k [] more g e = absurd (false≢true g)
unknown-other k (r ∷ cs) more g e = refused_place-group k r cs more g ∙ rw (other_row r (cs ++ more) e)

pub refused_place-items : (k : ℕ) (is : List Item) → refused_place k (items_rows is) ≡ unknown_row k is
unfolding refused_place items_rows unknown_row refused_item item_rows simple_type_rows head_tag row
refused_place-items k [] = refl
refused_place-items k (Item.element e ∷ is) = unknown-other k (item_rows (Item.element e)) (items_rows is) (group-item (Item.element e)) refl
    ∙ refused_place-items (k + length (item_rows (Item.element e))) is
refused_place-items k (Item.simple_type t ∷ is) =
    refused_place-group k (row 3 (t.name ∷ t.base ∷ []) 0 0 t.event) (map facet_row t.facets) (items_rows is) (group-item (Item.simple_type t))
    ∙ rw (simple-refused t (items_rows is) (head_first-items is), refused_place-items (k + length (item_rows (Item.simple_type t))) is)
refused_place-items k (Item.complex_type t ∷ is) =
    unknown-other k (item_rows (Item.complex_type t)) (items_rows is) (group-item (Item.complex_type t)) (content-others t.event t.name t.content).1
    ∙ refused_place-items (k + length (item_rows (Item.complex_type t))) is

unknown-some : (k : ℕ) (is : List Item) → 1 ≤ k → any_unknown (simple_types is) ≡ true → 1 ≤ refused_place k (items_rows is)
unknown-some k is h e = rw (refused_place-items k is) (omega (arith, unknown_row-least k is e))

unknown-none : (k : ℕ) (is : List Item) → any_unknown (simple_types is) ≡ false → unknown_row k is ≡ 0
unfolding any_unknown simple_types unknown_row refused_item
unknown-none k [] e = refl
unknown-none k (Item.element x ∷ is) e = unknown-none (k + length (item_rows (Item.element x))) is e
unknown-none k (Item.simple_type t ∷ is) e =
    rw (or-false-left (refused_base t) (any_unknown (simple_types is)) e)
    (unknown-none (k + length (item_rows (Item.simple_type t))) is (or-false-right (refused_base t) (any_unknown (simple_types is)) e))
unknown-none k (Item.complex_type t ∷ is) e = unknown-none (k + length (item_rows (Item.complex_type t))) is e

-- lowering refuses exactly where the place is not 0
pub refused_place-refused : (k : ℕ) (s : Schema) → 1 ≤ k → lower s ≡ none → 1 ≤ refused_place k (items_rows s.items)
refused_place-refused k s h e = unknown-some k s.items h ((refused-exactly s).0 e)

pub refused_place-lowered : (k : ℕ) (s : Schema) (g : TypeGraph) → lower s ≡ some g → refused_place k (items_rows s.items) ≡ 0
unfolding is_none
refused_place-lowered k s g e = refused_place-items k s.items ∙ unknown-none k s.items (sym (refusal s) ∙ ap is_none e)

-- ---- the elements

pub root_rows-items : (is : List Item) → root_rows (items_rows is) ≡ map root_row (map root_of_element (elements is))
unfolding root_rows items_rows elements item_rows lowered_row lowered_as row text0 text1 root_of_element root_row simple_type_rows head_tag
root_rows-items [] = refl
root_rows-items (Item.element e ∷ is) = rw (root_rows-items is)
root_rows-items (Item.simple_type t ∷ is) = root_rows-group (item_rows (Item.simple_type t)) (items_rows is) (group-item (Item.simple_type t)) refl ∙ root_rows-items is
root_rows-items (Item.complex_type t ∷ is) =
    root_rows-group (item_rows (Item.complex_type t)) (items_rows is) (group-item (Item.complex_type t)) (content-others t.event t.name t.content).0 ∙ root_rows-items is
