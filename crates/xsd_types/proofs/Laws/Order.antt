-- Which tags stand behind which head: laws of is_head, is_child, in_order and last_head. Assumes nothing.
use mathlib.Core.Path.{◌≡◌, refl, sym, ap, ◌∙◌}
use mathlib.Core.Logic.{⊎_elim}
use mathlib.Core.Bool.{true, false, ◌&&◌, ◌||◌, and_assoc, and-false}
use mathlib.Core.List.{List, [], ◌∷◌, ◌++◌, map, map-append}
use Prim.Native.Nat.{ℕ, ◌<◌}
use native.Mathlib.Omega.{arith}
use lib.Dec.{eqb, leb}
use borrow.Author.Tests.{eqb-true, lt-leb}
use Rattle.text.specs.Text.{every, between}
use Rattle.text.proofs.Laws.Texts.{between-low, between-high, between-below}
use Rattle.std.proofs.lemmas.Bool.{or_right, or_cases}
use Rattle.text.proofs.Laws.Tests.{and-true-left, and-true-right, and-true}
use Rattle.sheet.specs.Rows.{Row}
use Rattle.xsd_types.specs.Good.{is_head, is_child, may_follow, head_after, in_order, last_head}
use Rattle.text.proofs.Laws.Every.{every-head, every-tail}

abbrev pub tags : List Row → List ℕ
tags rs = map (λ (r : Row). r.tag) rs

pub tags-append : (xs ys : List Row) → tags (xs ++ ys) ≡ tags xs ++ tags ys
tags-append xs ys = map-append (λ (r : Row). r.tag) xs ys

pub between-over : (low high b : ℕ) → high < b → between low high b ≡ false
unfolding between
between-over low high b h = rw (lt-leb b high h) (and-false (leb low b))

-- a head and the tag of a child of it
pub data ChildOf : ℕ → ℕ → Type 0 where
  facet : {t : ℕ} → between 4 11 t ≡ true → ChildOf 3 t
  element : {t : ℕ} → between 17 18 t ≡ true → ChildOf 12 t
  variant : ChildOf 13 19
  attribute : ChildOf 14 20

module _ (h t : ℕ) where
  child-facet : eqb h 3 && between 4 11 t ≡ true → ChildOf h t
  child-facet w = rw (eqb-true h 3 (and-true-left _ _ w)) (ChildOf.facet (and-true-right (eqb h 3) _ w))

  child-element : eqb h 12 && between 17 18 t ≡ true → ChildOf h t
  child-element w = rw (eqb-true h 12 (and-true-left _ _ w)) (ChildOf.element (and-true-right (eqb h 12) _ w))

  child-variant : eqb h 13 && eqb t 19 ≡ true → ChildOf h t
  child-variant w = rw (eqb-true h 13 (and-true-left _ _ w), eqb-true t 19 (and-true-right (eqb h 13) _ w)) ChildOf.variant

  child-attribute : eqb h 14 && eqb t 20 ≡ true → ChildOf h t
  child-attribute w = rw (eqb-true h 14 (and-true-left _ _ w), eqb-true t 20 (and-true-right (eqb h 14) _ w)) ChildOf.attribute

  pub child_of : is_child h t ≡ true → ChildOf h t
  unfolding is_child
  child_of e =
      let A = eqb h 3 && between 4 11 t in
      let B = eqb h 12 && between 17 18 t in
      let C = eqb h 13 && eqb t 19 in
      ⊎_elim (λ w. ⊎_elim (λ v. ⊎_elim child-facet child-element (or_cases A B v)) child-variant (or_cases (A || B) C w)) child-attribute (or_cases (A || B || C) (eqb h 14 && eqb t 20) e)

pub child-no-head : {h t : ℕ} → ChildOf h t → is_head t ≡ false
unfolding is_head between
child-no-head (facet {t} e) = rw (between-over 2 3 t (omega (arith, between-low 4 11 t e)), between-below 12 16 t (omega (arith, between-high 4 11 t e)))
child-no-head (element {t} e) = rw (between-over 2 3 t (omega (arith, between-low 17 18 t e)), between-over 12 16 t (omega (arith, between-low 17 18 t e)))
child-no-head variant = refl
child-no-head attribute = refl

pub child-follows : {h t : ℕ} → ChildOf h t → is_child h t ≡ true → may_follow h t ≡ true
unfolding may_follow
child-follows {t = t} (facet e) c = or_right (is_head t) _ c
child-follows {t = t} (element e) c = or_right (is_head t) _ c
child-follows variant c = or_right (is_head 19) _ c
child-follows attribute c = or_right (is_head 20) _ c

pub in_order-append : (h : ℕ) (xs ys : List ℕ) → in_order h (xs ++ ys) ≡ in_order h xs && in_order (last_head h xs) ys
unfolding in_order last_head
in_order-append h [] ys = refl
in_order-append h (x ∷ xs) ys = rw (in_order-append (head_after h x) xs ys) (sym (and_assoc (may_follow h x) (in_order (head_after h x) xs) (in_order (last_head (head_after h x) xs) ys)))

pub last_head-append : (h : ℕ) (xs ys : List ℕ) → last_head h (xs ++ ys) ≡ last_head (last_head h xs) ys
unfolding last_head
last_head-append h [] ys = refl
last_head-append h (x ∷ xs) ys = last_head-append (head_after h x) xs ys

pub after-child : (h t : ℕ) → is_child h t ≡ true → head_after h t ≡ h
unfolding head_after
after-child h t e = rw (child-no-head (child_of h t e))

pub after-head : (h t : ℕ) → is_head t ≡ true → head_after h t ≡ t
unfolding head_after
after-head h t e = rw e

pub in_order-children : (h : ℕ) (xs : List ℕ) → every (is_child h) xs ≡ true → in_order h xs ≡ true
unfolding in_order
in_order-children h [] e = refl
in_order-children h (x ∷ xs) e =
    let c = every-head (is_child h) x xs e in
    rw (after-child h x c) (and-true (child-follows (child_of h x c) c) (in_order-children h xs (every-tail (is_child h) x xs e)))

pub last_head-children : (h : ℕ) (xs : List ℕ) → every (is_child h) xs ≡ true → last_head h xs ≡ h
unfolding last_head
last_head-children h [] e = refl
last_head-children h (x ∷ xs) e =
    ap (λ (n : ℕ). last_head n xs) (after-child h x (every-head (is_child h) x xs e)) ∙ last_head-children h xs (every-tail (is_child h) x xs e)
