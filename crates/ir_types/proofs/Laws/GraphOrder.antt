-- The tags of a graph's rows: roots before types, children behind their head, as many as row 0 says. Assumes nothing.
use Rattle.std.specs.Prelude.{if◌then◌else◌}
use Prim.Native.Nat.{ℕ, suc, ◌+◌}
use mathlib.Core.Path.{◌≡◌, refl, ap, ◌∙◌}
use mathlib.Core.Bool.{Bool, true, false, not, ◌&&◌}
use mathlib.Core.List.{List, [], ◌∷◌, ◌++◌, map, map-append}
use mathlib.Core.Option.{some, none}
use native.Mathlib.Omega.{arith}
use lib.Dec.{eqb}
use lib.ListN.{length}
use borrow.Author.Tests.{not-true}
use Rattle.text.specs.Text.{every, between, join}
use Rattle.sheet.specs.Rows.{Row, row, pack_row, pack}
use Rattle.ir_types.specs.Types.{Constraint, TypeDef, RootElement}
use Rattle.ir_types.specs.Rows.{field_row, variant_row, constraint_row, code_row, attr_row, type_rows, types_rows, root_row}
use Rattle.ir_types.specs.Form.{is_type_tag, is_child, may_follow, head_after, in_order, count, tags_of}
use Rattle.text.proofs.Laws.Tests.{and-true-left, and-true-right, and-true}
use Rattle.text.proofs.Laws.Every.{every-weaken}

abbrev pub tag_of : Row → ℕ
tag_of r = r.tag

abbrev pub is_root : ℕ → Bool
is_root tag = eqb tag 2

-- a child of the head, which is no root and no type
below : ℕ → ℕ → Bool
below head tag = is_child head tag && (not (is_type_tag tag) && not (is_root tag))

children-below : {A : Type 0} (head : ℕ) (f : A → Row) → ((x : A) → below head (f x).tag ≡ true) → (xs : List A) → every (below head) (map tag_of (map f xs)) ≡ true
unfolding every
children-below head f g [] = refl
children-below head f g (x ∷ xs) = and-true (g x) (children-below head f g xs)

-- a type's tags are a head's tag and children of it
record Shape (tags : List ℕ) : Type 0 where
  head : ℕ
  children : List ℕ
  made : tags ≡ head ∷ children
  headed : is_type_tag head ≡ true
  no_root : is_root head ≡ false
  under : every (below head) children ≡ true

constraint-below : (c : Constraint) → below 5 (constraint_row c).tag ≡ true
unfolding below is_child is_type_tag between constraint_row row
constraint-below (Constraint.pattern v) = refl
constraint-below (Constraint.min_length n) = refl
constraint-below (Constraint.max_length n) = refl
constraint-below (Constraint.min_inclusive v) = refl
constraint-below (Constraint.max_inclusive v) = refl
constraint-below (Constraint.total_digits n) = refl
constraint-below (Constraint.fraction_digits n) = refl

headed-by : (head : ℕ) (children : List ℕ) → is_type_tag head ≡ true → is_root head ≡ false → every (below head) children ≡ true → Shape (head ∷ children)
headed-by head children h k u = record { head = head; children = children; made = refl; headed = h; no_root = k; under = u }

shape : (d : TypeDef) → Shape (map tag_of (type_rows d))
unfolding type_rows row is_type_tag between below is_child every field_row variant_row code_row attr_row
shape (TypeDef.struct event n fs) = headed-by 3 _ refl refl (children-below 3 field_row (λ f. refl) fs)
shape (TypeDef.enum event n vs) = headed-by 4 _ refl refl (children-below 4 variant_row (λ v. refl) vs)
shape (TypeDef.newtype event n i cs) = headed-by 5 _ refl refl (children-below 5 constraint_row constraint-below cs)
shape (TypeDef.code_enum event n cs) = headed-by 6 _ refl refl (children-below 6 code_row (λ v. refl) cs)
shape (TypeDef.value_with_attr event n v xs) = headed-by 7 _ refl refl (children-below 7 attr_row (λ x. refl) xs)
shape (TypeDef.opaque event n none) = headed-by 8 [] refl refl refl
shape (TypeDef.opaque event n (some ns)) = headed-by 8 [] refl refl refl

-- ---- what a child's tag says

below-child : (head tag : ℕ) → below head tag ≡ true → is_child head tag ≡ true
unfolding below
below-child head tag h = and-true-left (is_child head tag) (not (is_type_tag tag) && not (is_root tag)) h

below-no-type : (head tag : ℕ) → below head tag ≡ true → is_type_tag tag ≡ false
unfolding below
below-no-type head tag h =
    not-true (is_type_tag tag) (and-true-left (not (is_type_tag tag)) (not (is_root tag)) (and-true-right (is_child head tag) (not (is_type_tag tag) && not (is_root tag)) h))

below-no-root : (head tag : ℕ) → below head tag ≡ true → is_root tag ≡ false
unfolding below
below-no-root head tag h =
    not-true (is_root tag) (and-true-right (not (is_type_tag tag)) (not (is_root tag)) (and-true-right (is_child head tag) (not (is_type_tag tag) && not (is_root tag)) h))

-- ---- order

order-children : (head : ℕ) (children rest : List ℕ) → every (below head) children ≡ true → in_order head rest ≡ true → in_order head (children ++ rest) ≡ true
unfolding every in_order may_follow head_after
order-children head [] rest h k = k
order-children head (tag ∷ tags) rest h k =
    let b : below head tag ≡ true = and-true-left (below head tag) (every (below head) tags) h in
    rw (below-no-type head tag b, below-child head tag b, below-no-root head tag b)
    (order-children head tags rest (and-true-right (below head tag) (every (below head) tags) h) k)

order-type : (before head : ℕ) (children rest : List ℕ) → is_type_tag head ≡ true → every (below head) children ≡ true → in_order head rest ≡ true → in_order before (head ∷ (children ++ rest)) ≡ true
unfolding in_order may_follow head_after
order-type before head children rest t h k = rw t (order-children head children rest h k)

order-types : (before : ℕ) (ds : List TypeDef) → in_order before (map tag_of (types_rows ds)) ≡ true
unfolding types_rows in_order
order-types before [] = refl
order-types before (d ∷ ds) =
    let s = shape d in
    rw (map-append tag_of (type_rows d) (types_rows ds), s.made)
    (order-type before s.head s.children (map tag_of (types_rows ds)) s.headed s.under (order-types s.head ds))

order-roots : (es : List RootElement) (rest : List ℕ) → in_order 2 rest ≡ true → in_order 2 (map tag_of (map root_row es) ++ rest) ≡ true
unfolding in_order may_follow head_after is_type_tag is_child between root_row row
order-roots [] rest h = h
order-roots (e ∷ es) rest h = order-roots es rest h

order-behind : (es : List RootElement) (rest : List ℕ) → in_order 1 rest ≡ true → in_order 2 rest ≡ true → in_order 1 (map tag_of (map root_row es) ++ rest) ≡ true
unfolding in_order may_follow head_after is_type_tag is_child between root_row row
order-behind [] rest h k = h
order-behind (e ∷ es) rest h k = order-roots es rest k

pub order-graph : (es : List RootElement) (ds : List TypeDef) → in_order 1 (map tag_of (map root_row es ++ types_rows ds)) ≡ true
order-graph es ds = rw (map-append tag_of (map root_row es) (types_rows ds)) (order-behind es (map tag_of (types_rows ds)) (order-types 1 ds) (order-types 2 ds))

-- ---- counts

count-append : (p : ℕ → Bool) (xs ys : List ℕ) → count p (xs ++ ys) ≡ count p xs + count p ys
unfolding count
count-append p [] ys = omega arith
count-append p (x ∷ xs) ys =
    elim (p x) as (λ b. (if b then suc (count p (xs ++ ys)) else count p (xs ++ ys)) ≡ (if b then suc (count p xs) else count p xs) + count p ys)
    [ true ↦ rw (count-append p xs ys) (omega arith) | false ↦ count-append p xs ys ]

count_none : (p : ℕ → Bool) (xs : List ℕ) → every (λ (x : ℕ). not (p x)) xs ≡ true → count p xs ≡ 0
unfolding count every
count_none p [] h = refl
count_none p (x ∷ xs) h =
    rw (not-true (p x) (and-true-left (not (p x)) (every (λ (y : ℕ). not (p y)) xs) h))
    (count_none p xs (and-true-right (not (p x)) (every (λ (y : ℕ). not (p y)) xs) h))

children-no-type : (head : ℕ) (tags : List ℕ) → every (below head) tags ≡ true → count is_type_tag tags ≡ 0
children-no-type head tags h = count_none is_type_tag tags (every-weaken (below head) (λ (x : ℕ). not (is_type_tag x)) (λ x b. rw (below-no-type head x b)) tags h)

children-no-root : (head : ℕ) (tags : List ℕ) → every (below head) tags ≡ true → count is_root tags ≡ 0
children-no-root head tags h = count_none is_root tags (every-weaken (below head) (λ (x : ℕ). not (is_root x)) (λ x b. rw (below-no-root head x b)) tags h)

types-of-types : (ds : List TypeDef) → count is_type_tag (map tag_of (types_rows ds)) ≡ length ds
unfolding types_rows count
types-of-types [] = refl
types-of-types (d ∷ ds) =
    let s = shape d in
    rw (map-append tag_of (type_rows d) (types_rows ds), s.made)
    (rw s.headed (ap suc (count-append is_type_tag s.children (map tag_of (types_rows ds)) ∙ rw (children-no-type s.head s.children s.under, types-of-types ds) (omega arith))))

roots-of-types : (ds : List TypeDef) → count is_root (map tag_of (types_rows ds)) ≡ 0
unfolding types_rows count
roots-of-types [] = refl
roots-of-types (d ∷ ds) =
    let s = shape d in
    rw (map-append tag_of (type_rows d) (types_rows ds), s.made)
    (rw s.no_root (count-append is_root s.children (map tag_of (types_rows ds)) ∙ rw (children-no-root s.head s.children s.under, roots-of-types ds)))

types-of-roots : (es : List RootElement) → count is_type_tag (map tag_of (map root_row es)) ≡ 0
unfolding count root_row row is_type_tag between
types-of-roots [] = refl
types-of-roots (e ∷ es) = types-of-roots es

roots-of-roots : (es : List RootElement) → count is_root (map tag_of (map root_row es)) ≡ length es
unfolding count root_row row
roots-of-roots [] = refl
roots-of-roots (e ∷ es) = ap suc (roots-of-roots es)

pub count-types : (es : List RootElement) (ds : List TypeDef) → count is_type_tag (map tag_of (map root_row es ++ types_rows ds)) ≡ length ds
count-types es ds =
    rw (map-append tag_of (map root_row es) (types_rows ds), count-append is_type_tag (map tag_of (map root_row es)) (map tag_of (types_rows ds)), types-of-roots es, types-of-types ds) (omega arith)

pub count-roots : (es : List RootElement) (ds : List TypeDef) → count is_root (map tag_of (map root_row es ++ types_rows ds)) ≡ length es
count-roots es ds =
    rw (map-append tag_of (map root_row es) (types_rows ds), count-append is_root (map tag_of (map root_row es)) (map tag_of (types_rows ds)), roots-of-roots es, roots-of-types ds) (omega arith)

pub tags-packed : (k : ℕ) (rs : List Row) → tags_of (pack k rs) ≡ map tag_of rs
unfolding tags_of pack pack_row
tags-packed k [] = refl
tags-packed k (r ∷ rs) = ap (λ (l : List ℕ). r.tag ∷ l) (tags-packed (k + length (join r.texts)) rs)
