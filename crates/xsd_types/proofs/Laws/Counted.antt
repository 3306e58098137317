-- How many simple types lowering refuses, by the rows of the items: children are passed over, and each head counts as its item does. Assumes nothing.
use Rattle.std.specs.Prelude.{if◌then◌else◌}
use Prim.Native.Nat.{ℕ, suc, ◌+◌}
use mathlib.Core.Path.{◌≡◌, refl, sym, ap, ◌∙◌}
use mathlib.Core.Bool.{true, false, false≢true}
use mathlib.Core.List.{List, [], ◌∷◌, ◌++◌, map, append_assoc}
use native.Mathlib.Omega.{arith}
use lib.Dec.{eqb}
use borrow.Author.Tests.{eqb-true, ne_eqb}
use Rattle.text.specs.Text.{Text, every, between}
use Rattle.std.proofs.lemmas.Bool.{false_from_ne_true}
use Rattle.text.proofs.Laws.Tests.{and-true-right, if-cases}
use Rattle.text.proofs.Laws.Every.{every-head, every-tail}
use Rattle.text.proofs.Laws.Texts.{between-low}
use Rattle.sheet.specs.Rows.{Row, row}
use Rattle.xsd_types.specs.Types.{ComplexContent, Item}
use Rattle.xsd_types.specs.State.{started}
use Rattle.xsd_types.specs.Rows.{facet_row, simple_type_rows, complex_type_rows, item_rows, items_rows}
use Rattle.xsd_types.specs.Good.{is_head, is_child}
use Rattle.xsd_types.specs.Refused.{refused_item, refused_row}
use Rattle.xsd_types.specs.Count.{refused_types, refused_rows}
use Rattle.xsd_types.proofs.Laws.Order.{tags, child_of, child-no-head}
use Rattle.xsd_types.proofs.Laws.Groups.{is_group, head_tag}
use Rattle.xsd_types.proofs.Laws.Items.{group-item, head-complex}
use Rattle.xsd_types.proofs.Laws.Refused.{head_first-items, simple-refused}

-- items one behind the other
pub refused_types-append : (is js : List Item) → refused_types (is ++ js) ≡ refused_types is + refused_types js
unfolding refused_types
refused_types-append [] js = omega arith
refused_types-append (i ∷ is) js =
    if-cases (λ (n : ℕ). n ≡ (if refused_item i then suc (refused_types is) else refused_types is) + refused_types js) (refused_item i)
    (λ e. rw e (omega (arith, refused_types-append is js)))
    (λ e. rw e (refused_types-append is js))

-- a row that is no head of a simple type does not count
pub other_row : (r : Row) (rs : List Row) → eqb r.tag 3 ≡ false → refused_row r rs ≡ false
unfolding refused_row
other_row r rs e = rw e

no-simple : (n : ℕ) → is_head n ≡ false → eqb n 3 ≡ false
unfolding is_head between
no-simple n e = false_from_ne_true (eqb n 3) (λ q. false≢true (sym e ∙ rw (eqb-true n 3 q)))

children-pass : (h : ℕ) (cs more : List Row) → every (is_child h) (tags cs) ≡ true → refused_rows (cs ++ more) ≡ refused_rows more
unfolding refused_rows
children-pass h [] more e = refl
children-pass h (c ∷ cs) more e =
    rw (other_row c (cs ++ more) (no-simple c.tag (child-no-head (child_of h c.tag (every-head (is_child h) c.tag (tags cs) e)))))
    (children-pass h cs more (every-tail (is_child h) c.tag (tags cs) e))

-- a head with its children
group-count : (r : Row) (cs more : List Row) → is_group (r ∷ cs) ≡ true → refused_rows (r ∷ (cs ++ more)) ≡ (if refused_row r (cs ++ more) then suc (refused_rows more) else refused_rows more)
unfolding refused_rows is_group
group-count r cs more g = rw (children-pass r.tag cs more (and-true-right (is_head r.tag) _ g))

group-passes : (rs more : List Row) → is_group rs ≡ true → eqb (head_tag rs) 3 ≡ false → refused_rows (rs ++ more) ≡ refused_rows more
unfolding head_tag is_group
group-passes [] more g e = absurd (false≢true g)
group-passes (r ∷ cs) more g e = group-count r cs more g ∙ rw (other_row r (cs ++ more) e)

content-passes : (event : ℕ) (name : Text) (c : ComplexContent) → eqb (head_tag (complex_type_rows event name (started c))) 3 ≡ false
content-passes event name c = ne_eqb _ 3 (λ e. omega (arith, between-low 12 16 _ (head-complex event name (started c))))

-- the rows of items count as the items do
pub refused_rows-items : (is : List Item) → refused_rows (items_rows is) ≡ refused_types is
unfolding refused_rows refused_types items_rows refused_item item_rows simple_type_rows head_tag row
refused_rows-items [] = refl
refused_rows-items (Item.element e ∷ is) = group-passes (item_rows (Item.element e)) (items_rows is) (group-item (Item.element e)) refl ∙ refused_rows-items is
refused_rows-items (Item.simple_type t ∷ is) =
    group-count (row 3 (t.name ∷ t.base ∷ []) 0 0 t.event) (map facet_row t.facets) (items_rows is) (group-item (Item.simple_type t))
    ∙ rw (simple-refused t (items_rows is) (head_first-items is), refused_rows-items is)
refused_rows-items (Item.complex_type t ∷ is) =
    group-passes (item_rows (Item.complex_type t)) (items_rows is) (group-item (Item.complex_type t)) (content-passes t.event t.name t.content) ∙ refused_rows-items is

-- items one behind the other, by their rows
pub items_rows-append : (is js : List Item) → items_rows (is ++ js) ≡ items_rows is ++ items_rows js
unfolding items_rows
items_rows-append [] js = refl
items_rows-append (i ∷ is) js = ap (λ (l : List Row). item_rows i ++ l) (items_rows-append is js) ∙ sym (append_assoc (item_rows i) (items_rows is) (items_rows js))
