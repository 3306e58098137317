-- Rows that are kept of such as the form allows are such again, and the kept types' names are distinct where all are. By the groups: a test of the rows, and the test
-- of their order, is one of the rows before the first type and of each type by itself. Assumes nothing.
use mathlib.Core.Path.{◌≡◌, refl, sym, ap, subst, ◌∙◌}
use mathlib.Core.Bool.{Bool, true, false, not, ◌&&◌, and_assoc}
use mathlib.Core.List.{List, [], ◌∷◌, ◌++◌, map, map-append}
use Prim.Native.Nat.{ℕ}
use borrow.Author.Tests.{not-true}
use Rattle.text.specs.Text.{Text, every, between, same}
use Rattle.std.proofs.lemmas.Bool.{and_parts}
use Rattle.text.proofs.Laws.Tests.{and-true, and-true-left, and-true-right, or-false-left, or-false-right}
use Rattle.text.proofs.Laws.Every.{every_append, every-head, every-tail, every-cons}
use Rattle.sheet.specs.Rows.{Row}
use Rattle.sheet.specs.Form.{texts_counted}
use Rattle.ir_types.specs.Form.{used_pairs, is_type_tag, may_follow, head_after, in_order}
use Rattle.ir_types.specs.Ok.{row_form}
use Rattle.ir_types.specs.Distinct.{among, distinct_texts}
use Rattle.ir_types.proofs.Laws.GraphOrder.{tag_of}
use Rattle.ir_types.proofs.Laws.RowsForm.{text_row, Allowed}
use Rattle.ir_reduce.specs.Groups.{GraphType, Parted, add_graph_row, parted, rows_of_types, rows_of_parted, type_name}
use Rattle.ir_reduce.specs.Reach.{Chain, Kept, Reduced}
use Rattle.ir_reduce.proofs.Laws.Reach.{kept-every}
use Rattle.ir_reduce.proofs.Laws.Parted.{is_child_row, type_shaped, shaped, shaped-parted, rows-parted}

-- ---- a test of every row
type_passes : (Row → Bool) → GraphType → Bool
type_passes test t = test t.head && every test t.children

every-types : (test : Row → Bool) (ts : List GraphType) → every test (rows_of_types ts) ≡ every (type_passes test) ts
unfolding every rows_of_types type_passes
every-types test [] = refl
every-types test (t ∷ ts) = rw (every_append test t.children (rows_of_types ts), every-types test ts) (sym (and_assoc (test t.head) (every test t.children) (every (type_passes test) ts)))

every-rows : (test : Row → Bool) (front : List Row) (ts : List GraphType) → every test (front ++ rows_of_types ts) ≡ every test front && every (type_passes test) ts
every-rows test front ts = every_append test front (rows_of_types ts) ∙ rw (every-types test ts)

every-kept : {P : GraphType → Type 0} (test : Row → Bool) (front : List Row) {ts us : List GraphType} → Kept P ts us → every test (front ++ rows_of_types ts) ≡ true
    → every test (front ++ rows_of_types us) ≡ true
every-kept test front {ts} {us} k h =
    let both = and_parts (every test front) (every (type_passes test) ts) (sym (every-rows test front ts) ∙ h) in
    every-rows test front us ∙ and-true both.0 (kept-every (type_passes test) k both.1)

-- ---- the order of the tags
last_head : ℕ → List ℕ → ℕ
last_head head [] = head
last_head head (tag ∷ tags) = last_head (head_after head tag) tags

order-append : (head : ℕ) (xs ys : List ℕ) → in_order head (xs ++ ys) ≡ in_order head xs && in_order (last_head head xs) ys
unfolding in_order last_head
order-append head [] ys = refl
order-append head (x ∷ xs) ys =
    rw (order-append (head_after head x) xs ys) (sym (and_assoc (may_follow head x) (in_order (head_after head x) xs) (in_order (last_head (head_after head x) xs) ys)))

type_ordered : GraphType → Bool
type_ordered t = in_order t.head.tag (map tag_of t.children)

-- a type may follow whatever stands before it
order-head : (head tag : ℕ) (tags : List ℕ) → is_type_tag tag ≡ true → in_order head (tag ∷ tags) ≡ in_order tag tags
unfolding in_order may_follow head_after
order-head head tag tags h = rw h

head-shaped : (t : GraphType) → type_shaped t ≡ true → is_type_tag t.head.tag ≡ true
unfolding type_shaped
head-shaped t h = and-true-left (is_type_tag t.head.tag) (every is_child_row t.children) h

order-types : (head : ℕ) (ts : List GraphType) → every type_shaped ts ≡ true → in_order head (map tag_of (rows_of_types ts)) ≡ every type_ordered ts
unfolding in_order every rows_of_types type_ordered
order-types head [] h = refl
order-types head (t ∷ ts) h =
    let tags = map tag_of t.children in
    let rest = map tag_of (rows_of_types ts) in
    order-head head t.head.tag (map tag_of (t.children ++ rows_of_types ts)) (head-shaped t (every-head type_shaped t ts h))
    ∙ ap (in_order t.head.tag) (map-append tag_of t.children (rows_of_types ts))
    ∙ order-append t.head.tag tags rest
    ∙ ap (λ (b : Bool). in_order t.head.tag tags && b) (order-types (last_head t.head.tag tags) ts (every-tail type_shaped t ts h))

order-rows : (head : ℕ) (front : List Row) (ts : List GraphType) → every type_shaped ts ≡ true
    → in_order head (map tag_of (front ++ rows_of_types ts)) ≡ in_order head (map tag_of front) && every type_ordered ts
order-rows head front ts h =
    ap (in_order head) (map-append tag_of front (rows_of_types ts)) ∙ order-append head (map tag_of front) (map tag_of (rows_of_types ts))
    ∙ ap (λ (b : Bool). in_order head (map tag_of front) && b) (order-types (last_head head (map tag_of front)) ts h)

order-kept : {P : GraphType → Type 0} (head : ℕ) (front : List Row) {ts us : List GraphType} → Kept P ts us → every type_shaped ts ≡ true
    → in_order head (map tag_of (front ++ rows_of_types ts)) ≡ true → in_order head (map tag_of (front ++ rows_of_types us)) ≡ true
order-kept head front {ts} {us} k s h =
    let both = and_parts (in_order head (map tag_of front)) (every type_ordered ts) (sym (order-rows head front ts s) ∙ h) in
    order-rows head front us (kept-every type_shaped k s) ∙ and-true both.0 (kept-every type_ordered k both.1)

-- ---- the rows that are kept
first-front : (n : Row) (rs : List Row) → n.tag ≡ 1 → parted (n ∷ rs) ≡ record { front = n ∷ (parted rs).front; types = (parted rs).types }
unfolding parted add_graph_row is_type_tag between
first-front n rs e = rw e

shaped-types : (rs : List Row) → every type_shaped (parted rs).types ≡ true
unfolding shaped
shaped-types rs = and-true-right (every is_child_row (parted rs).front) (every type_shaped (parted rs).types) (shaped-parted rs)

module _ (n : Row) (rest : List Row) (e : n.tag ≡ 1) {q : Parted} (v : Reduced (parted (n ∷ rest)) q) where
  kept : Kept (Chain (parted (n ∷ rest))) (parted rest).types q.types
  kept = subst (λ (ts : List GraphType). Kept (Chain (parted (n ∷ rest))) ts q.types) (ap (λ (p : Parted). p.types) (first-front n rest e)) v.types

  made : rows_of_parted q ≡ n ∷ ((parted rest).front ++ rows_of_types q.types)
  unfolding rows_of_parted
  made = rw (v.front, ap (λ (p : Parted). p.front) (first-front n rest e))

  rest-is : rest ≡ (parted rest).front ++ rows_of_types (parted rest).types
  unfolding rows_of_parted
  rest-is = sym (rows-parted rest)

  rest-kept : (test : Row → Bool) → every test rest ≡ true → every test ((parted rest).front ++ rows_of_types q.types) ≡ true
  rest-kept test h = every-kept test (parted rest).front kept (ap (every test) (sym rest-is) ∙ h)

  all-kept : (test : Row → Bool) → every test (n ∷ rest) ≡ true → every test (rows_of_parted q) ≡ true
  all-kept test h = rw made (every-cons test n _ (every-head test n rest h) (rest-kept test (every-tail test n rest h)))

  rest-ordered : in_order 1 (map tag_of rest) ≡ true → in_order 1 (map tag_of ((parted rest).front ++ rows_of_types q.types)) ≡ true
  rest-ordered h = order-kept 1 (parted rest).front kept (shaped-types rest) (ap (λ (l : List Row). in_order 1 (map tag_of l)) (sym rest-is) ∙ h)

pub allowed-kept : {rs : List Row} {q : Parted} → Allowed rs → Reduced (parted rs) q → Allowed (rows_of_parted q)
allowed-kept {rs} {q} w v =
    let u = rw w.made at v in
    record {
      first = w.first;
      rest = (parted w.rest).front ++ rows_of_types q.types;
      made = made w.first w.rest w.tag_is u;
      tag_is = w.tag_is;
      a_is = w.a_is;
      b_is = w.b_is;
      c_is = w.c_is;
      formed = rest-kept w.first w.rest w.tag_is u row_form w.formed;
      ordered = rest-ordered w.first w.rest w.tag_is u w.ordered;
      uses = all-kept w.first w.rest w.tag_is u (texts_counted used_pairs) (rw w.made at w.uses);
      texts = all-kept w.first w.rest w.tag_is u text_row (rw w.made at w.texts);
    }

-- ---- the names that are kept
among-kept : {P : GraphType → Type 0} {ts us : List GraphType} (n : Text) → Kept P ts us → among n (map type_name ts) ≡ false → among n (map type_name us) ≡ false
unfolding among
among-kept n Kept.end h = refl
among-kept n (Kept.keep {t} {ts} {us} c k) h =
    rw (or-false-left (same (type_name t) n) (among n (map type_name ts)) h) (among-kept n k (or-false-right (same (type_name t) n) (among n (map type_name ts)) h))
among-kept n (Kept.leave {t} {ts} {us} c k) h = among-kept n k (or-false-right (same (type_name t) n) (among n (map type_name ts)) h)

pub distinct-kept : {P : GraphType → Type 0} {ts us : List GraphType} → Kept P ts us → distinct_texts (map type_name ts) ≡ true → distinct_texts (map type_name us) ≡ true
unfolding distinct_texts
distinct-kept Kept.end h = refl
distinct-kept (Kept.keep {t} {ts} {us} c k) h =
    let both = and_parts (not (among (type_name t) (map type_name ts))) (distinct_texts (map type_name ts)) h in
    rw (among-kept (type_name t) k (not-true (among (type_name t) (map type_name ts)) both.0)) (distinct-kept k both.1)
distinct-kept (Kept.leave {t} {ts} {us} c k) h = distinct-kept k (and-true-right (not (among (type_name t) (map type_name ts))) (distinct_texts (map type_name ts)) h)
