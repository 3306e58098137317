-- What a graph sheet's form says of its rows by their places: their pairs stand side by side in the names, and the roots stand before the types. By induction over the
-- rows from a place on. Assumes nothing.
use mathlib.Core.Path.{◌≡◌, refl, sym, ap, ◌∙◌}
use mathlib.Core.Bool.{Bool, true, false, false≢true, and-false}
use mathlib.Core.List.{List, [], ◌∷◌, map}
use Prim.Native.Nat.{ℕ, zero, suc, ◌+◌, ◌*◌, ◌≤◌, ◌<◌}
use native.Mathlib.Omega.{arith}
use lib.Dec.{eqb, leb}
use lib.ListN.{length, get_or, drop}
use lib.Seq.{drop-drop, get_or-drop}
use borrow.Author.Tests.{eqb-true, eqb-false, leb-true, lt-leb}
use Rattle.text.specs.Text.{every, between}
use Rattle.std.proofs.lemmas.Bool.{and_parts}
use Rattle.text.proofs.Laws.Tests.{and-true-left, and-true-right}
use Rattle.text.proofs.Laws.Every.{every-head, every-tail}
use Rattle.sheet.specs.Rows.{ten, tens, unpack_row}
use Rattle.sheet.specs.Form.{row_covers, end_of, covers, covered}
use Rattle.sheet.proofs.Laws.Unpacks.{few, few-used, covered-from}
use Rattle.ir_types.specs.Form.{used_pairs, is_type_tag, is_child, may_follow, head_after, in_order, tags_of}
use Rattle.ir_reduce.specs.Places.{row_at, rows_by_place}
use Rattle.ir_reduce.specs.Copy.{Stands}

-- ---- the rows by their places
ten-next : (rows : List ℕ) (p : ℕ) → drop 10 (drop (10 * p) rows) ≡ drop (10 * suc p) rows
ten-next rows p = let e : 10 * p + 10 ≡ 10 * suc p = omega arith in drop-drop 10 (10 * p) rows ∙ ap (λ (k : ℕ). drop k rows) e

pub rows-by-place : (rows names : List ℕ) (m p : ℕ) → map (unpack_row used_pairs names) (tens m (drop (10 * p) rows)) ≡ rows_by_place (row_at rows names) p m
unfolding tens rows_by_place row_at
rows-by-place rows names zero p = refl
rows-by-place rows names (suc m) p = rw (ten-next rows p, rows-by-place rows names m (suc p))

unfoldable pub tags_from : (ℕ → ℕ) → ℕ → ℕ → List ℕ
tags_from g p zero = []
tags_from g p (suc m) = g p ∷ tags_from g (suc p) m

pub tags-by-place : (rows : List ℕ) (m p : ℕ) → tags_of (tens m (drop (10 * p) rows)) ≡ tags_from (λ q. get_or rows (10 * q) 0) p m
unfolding tags_of tens tags_from ten
tags-by-place rows zero p = refl
tags-by-place rows (suc m) p =
    let tag : get_or (drop (10 * p) rows) 0 0 ≡ get_or rows (10 * p) 0 = get_or-drop (10 * p) rows 0 0 ∙ ap (λ (k : ℕ). get_or rows k 0) (omega arith) in
    rw (ten-next rows p, tag) (ap (λ (l : List ℕ). get_or rows (10 * p) 0 ∷ l) (tags-by-place rows m (suc p)))

-- ---- the pairs by their places
pub stands_from : (rows names : List ℕ) (m p k : ℕ) → every (few used_pairs) (tens m (drop (10 * p) rows)) ≡ true → covers used_pairs k (tens m (drop (10 * p) rows)) ≡ true
    → covered k (tens m (drop (10 * p) rows)) ≤ length names
    → (q : ℕ) → p ≤ q → q < p + m → Stands rows names q
unfolding tens covers covered
stands_from rows names zero p k f e n q a b = absurd (let no : ⊥ = omega arith in no)
stands_from rows names (suc m) p k f e n q a b =
    let t = ten (drop (10 * p) rows) in
    let ts = tens m (drop 10 (drop (10 * p) rows)) in
    let next = ap (tens m) (ten-next rows p) in
    by_place (eqb q p) refl
    (λ o. stands_from rows names m (suc p) (end_of k t) (rw next at (every-tail (few used_pairs) t ts f))
    (rw next at (and-true-right (row_covers used_pairs k t) (covers used_pairs (end_of k t) ts) e)) (rw next at n) q (omega arith) (omega arith))
  where
    by_place : (b : Bool) → eqb q p ≡ b → (p < q → Stands rows names q) → Stands rows names q
    by_place true g again =
        rw (eqb-true q p g)
        (record {
          from = k;
          covers = and-true-left (row_covers used_pairs k (ten (drop (10 * p) rows))) _ e;
          few = few-used used_pairs (ten (drop (10 * p) rows)) (every-head (few used_pairs) (ten (drop (10 * p) rows)) _ f);
          inside = omega (arith, covered-from (end_of k (ten (drop (10 * p) rows))) (tens m (drop 10 (drop (10 * p) rows))));
        })
    by_place false g again = again (omega (arith, eqb-false q p g))

-- ---- the order of the tags
small-head : (head tag : ℕ) → leb head 2 ≡ true → is_child head tag ≡ false
unfolding is_child
small-head zero tag h = refl
small-head (suc zero) tag h = refl
small-head (suc (suc zero)) tag h = refl
small-head (suc (suc (suc head))) tag h = absurd (let no : ⊥ = omega (arith, leb-true (suc (suc (suc head))) 2 h) in no)

no-root-child : (head : ℕ) → is_child head 2 ≡ false
unfolding is_child between
no-root-child head = rw (and-false (eqb head 3), and-false (eqb head 4), and-false (eqb head 5), and-false (eqb head 6), and-false (eqb head 7))

type-above : (tag : ℕ) → is_type_tag tag ≡ true → 3 ≤ tag
unfolding is_type_tag between
type-above tag h = leb-true 3 tag (and-true-left (leb 3 tag) (leb tag 8) h)

-- before the first type a row is a root
root-follows : (head tag : ℕ) → leb head 2 ≡ true → is_type_tag tag ≡ false → may_follow head tag ≡ true → tag ≡ 2
unfolding may_follow
root-follows head tag h k e = eqb-true tag 2 (and-true-right (leb head 2) (eqb tag 2) (rw (k, small-head head tag h) at e))

-- behind a type there is none
type-follows : (head : ℕ) → 3 ≤ head → may_follow head 2 ≡ true → ⊥
unfolding may_follow is_type_tag between
type-follows head h e = false≢true (rw (no-root-child head, lt-leb head 2 (omega arith)) at e)

after-root : (head : ℕ) → head_after head 2 ≡ 2
unfolding head_after is_type_tag between
after-root head = refl

after-head : (head tag : ℕ) → is_type_tag tag ≡ true → head_after head tag ≡ tag
unfolding head_after
after-head head tag h = rw h

after-child : (head tag : ℕ) → is_type_tag tag ≡ false → eqb tag 2 ≡ false → head_after head tag ≡ head
unfolding head_after
after-child head tag h k = rw (h, k)

after-type : (head tag : ℕ) → 3 ≤ head → may_follow head tag ≡ true → 3 ≤ head_after head tag
after-type head tag h e = by-type (is_type_tag tag) refl (eqb tag 2) refl
  where
    by-type : (b : Bool) → is_type_tag tag ≡ b → (c : Bool) → eqb tag 2 ≡ c → 3 ≤ head_after head tag
    by-type true k c r = rw (after-head head tag k) (type-above tag k)
    by-type false k true r = absurd (type-follows head h (rw (eqb-true tag 2 r) at e))
    by-type false k false r = rw (after-child head tag k r) h

module _ (g : ℕ → ℕ) where
  pub front-roots : (m p head : ℕ) → leb head 2 ≡ true → in_order head (tags_from g p m) ≡ true → (q : ℕ) → p ≤ q → q < p + m → ((i : ℕ) → p ≤ i → i ≤ q → is_type_tag (g i) ≡ false) → g q ≡ 2
  unfolding in_order tags_from
  front-roots zero p head h e q a b k = absurd (let no : ⊥ = omega arith in no)
  front-roots (suc m) p head h e q a b k =
      let both = and_parts (may_follow head (g p)) (in_order (head_after head (g p)) (tags_from g (suc p) m)) e in
      let root = root-follows head (g p) h (k p (omega arith) a) both.0 in
      let after : head_after head (g p) ≡ 2 = rw root (after-root head) in
      by_place root (eqb q p) refl (λ o. front-roots m (suc p) 2 refl (rw after at both.1) q (omega arith) (omega arith) (λ i c d. k i (omega arith) d))
    where
      by_place : g p ≡ 2 → (b : Bool) → eqb q p ≡ b → (p < q → g q ≡ 2) → g q ≡ 2
      by_place r true s again = ap g (eqb-true q p s) ∙ r
      by_place r false s again = again (omega (arith, eqb-false q p s))

  behind-types : (m p head : ℕ) → 3 ≤ head → in_order head (tags_from g p m) ≡ true → (q : ℕ) → p ≤ q → q < p + m → g q ≡ 2 → ⊥
  unfolding in_order tags_from
  behind-types zero p head h e q a b k = omega arith
  behind-types (suc m) p head h e q a b k =
      let both = and_parts (may_follow head (g p)) (in_order (head_after head (g p)) (tags_from g (suc p) m)) e in
      by_place both.0 (eqb q p) refl (λ o. behind-types m (suc p) (head_after head (g p)) (after-type head (g p) h both.0) both.1 q (omega arith) (omega arith) k)
    where
      by_place : may_follow head (g p) ≡ true → (b : Bool) → eqb q p ≡ b → (p < q → ⊥) → ⊥
      by_place f true s again = type-follows head h (rw (ap g (sym (eqb-true q p s)) ∙ k) at f)
      by_place f false s again = again (omega (arith, eqb-false q p s))

  pub under-types : (m p head : ℕ) → in_order head (tags_from g p m) ≡ true → (a q : ℕ) → p ≤ a → a < q → q < p + m → is_type_tag (g a) ≡ true → g q ≡ 2 → ⊥
  unfolding in_order tags_from
  under-types zero p head e a q b c d t k = omega arith
  under-types (suc m) p head e a q b c d t k =
      let rest = and-true-right (may_follow head (g p)) (in_order (head_after head (g p)) (tags_from g (suc p) m)) e in
      by_place rest (eqb a p) refl (λ o. under-types m (suc p) (head_after head (g p)) rest a q (omega arith) c (omega arith) t k)
    where
      by_place : in_order (head_after head (g p)) (tags_from g (suc p) m) ≡ true → (b : Bool) → eqb a p ≡ b → (p < a → ⊥) → ⊥
      by_place rest true s again =
          let here : is_type_tag (g p) ≡ true = ap (λ (i : ℕ). is_type_tag (g i)) (sym (eqb-true a p s)) ∙ t in
          behind-types m (suc p) (g p) (type-above (g p) here) (rw (after-head head (g p) here) at rest) q (omega (arith, eqb-true a p s)) (omega arith) k
      by_place rest false s again = again (omega (arith, eqb-false a p s))
