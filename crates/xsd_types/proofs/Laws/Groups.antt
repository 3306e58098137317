-- Rows that are a head with its children: where they stand in order, and how `grouped` takes them apart. Assumes nothing.
use mathlib.Core.Path.{◌≡◌, refl, ap, ◌∙◌}
use mathlib.Core.Bool.{Bool, true, false, not, ◌&&◌, false≢true}
use mathlib.Core.List.{List, [], ◌∷◌, ◌++◌, append-nil}
use Prim.Native.Nat.{ℕ}
use lib.Dec.{eqb}
use Rattle.text.specs.Text.{every}
use Rattle.std.proofs.lemmas.Bool.{or_left}
use Rattle.text.proofs.Laws.Tests.{and-true-left, and-true-right, and-true}
use Rattle.sheet.specs.Rows.{Row}
use Rattle.xsd_types.specs.Good.{is_head, is_child, may_follow, in_order, last_head}
use Rattle.xsd_types.specs.Back.{Group, add_row, grouped, no_group}
use Rattle.xsd_types.proofs.Laws.Order.{tags, child_of, child-no-head, after-head, in_order-children, last_head-children}
use Rattle.text.proofs.Laws.Every.{every-head, every-tail}

-- the rows are a head and children of it
unfoldable pub is_group : List Row → Bool
is_group [] = false
is_group (h ∷ cs) = is_head h.tag && every (is_child h.tag) (tags cs)

unfoldable pub head_tag : List Row → ℕ
head_tag [] = 0
head_tag (h ∷ cs) = h.tag

unfoldable pub as_group : List Row → Group
as_group [] = no_group
as_group (h ∷ cs) = record { head = h; children = cs }

pub in_order-group : (n : ℕ) (rs : List Row) → not (eqb n 16) ≡ true → is_group rs ≡ true → in_order n (tags rs) ≡ true
unfolding is_group in_order may_follow
in_order-group n [] o g = refl
in_order-group n (h ∷ cs) o g =
    let e : is_head h.tag ≡ true = and-true-left _ _ g in
    let d = in_order-children h.tag (tags cs) (and-true-right (is_head h.tag) _ g) in
    rw (after-head n h.tag e) (and-true (and-true o (or_left _ (is_child n h.tag) e)) d)

pub last_head-group : (n : ℕ) (rs : List Row) → is_group rs ≡ true → last_head n (tags rs) ≡ head_tag rs
unfolding is_group last_head head_tag
last_head-group n [] g = absurd (false≢true g)
last_head-group n (h ∷ cs) g =
    ap (λ (m : ℕ). last_head m (tags cs)) (after-head n h.tag (and-true-left _ _ g)) ∙ last_head-children h.tag (tags cs) (and-true-right (is_head h.tag) _ g)

pub grouped-children : (n : ℕ) (cs rest : List Row) → every (is_child n) (tags cs) ≡ true → grouped (cs ++ rest) ≡ record { loose = cs ++ (grouped rest).loose; groups = (grouped rest).groups }
unfolding grouped add_row
grouped-children n [] rest e = refl
grouped-children n (c ∷ cs) rest e =
    let h = child-no-head (child_of n c.tag (every-head (is_child n) c.tag (tags cs) e)) in
    rw (h, grouped-children n cs rest (every-tail (is_child n) c.tag (tags cs) e))

-- what stands behind a group has no loose rows, and so has the whole
pub grouped-group : (rs rest : List Row) → is_group rs ≡ true → (grouped rest).loose ≡ [] → grouped (rs ++ rest) ≡ record { loose = []; groups = as_group rs ∷ (grouped rest).groups }
unfolding grouped add_row is_group as_group
grouped-group [] rest g l = absurd (false≢true g)
grouped-group (h ∷ cs) rest g l =
    let e : is_head h.tag ≡ true = and-true-left _ _ g in
    rw (e, grouped-children h.tag cs rest (and-true-right (is_head h.tag) _ g), l, append-nil cs)
