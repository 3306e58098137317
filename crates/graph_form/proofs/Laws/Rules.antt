-- Laws of the table of tags (specs/Rules.antt): its rows are the rules, and what it tells by numbers is what the definitions ask. That its sets are those of the
-- heads behind which a tag may stand is a test that antt computes at all 20 tags and 32 heads. Assumes nothing.
use Rattle.std.specs.Prelude.{if◌then◌else◌}
use Rattle.std.proofs.lemmas.List.{get_or-map}
use Prim.Native.Nat.{ℕ, zero, suc, ◌≤◌, ◌<◌}
use mathlib.Core.Path.{◌≡◌, refl, sym, ap, ◌∙◌}
use mathlib.Core.Bool.{Bool, true, false, not, ◌&&◌, ◌||◌, false≢true, and-false, and-true}
use mathlib.Core.List.{List, map}
use native.Mathlib.Omega.{arith}
use lib.Dec.{eqb, leb}
use lib.ListN.{get_or}
use borrow.Author.Tests.{eqb-true, leb-true, le-leb, lt-leb, ne_eqb}
use Rattle.text.specs.Text.{between}
use Rattle.text.proofs.Laws.Agree.{agree}
use Rattle.text.proofs.Laws.Table.{passes, at}
use Rattle.text.proofs.Laws.Tests.{bool_cases, and-true-left, and-true-right}
use Rattle.sheet.specs.Rows.{Ten, bit}
use Rattle.sheet.specs.Form.{is_flag}
use Rattle.rows.specs.Table.{has_bit, set_below, in_heads}
use Rattle.rows.proofs.Laws.Table.{bit-none, bit-small, heads-told}
use Rattle.ir_types.specs.Form.{used_pairs, is_type_tag, is_child, may_follow, form_a, form_b, form_c, ten_form}
use Rattle.graph_form.specs.declared.rules.Rule.{Rule}
use Rattle.graph_form.specs.Rules.{most_a, most_b, rule_of, rule_numbers, ruled_tags}

-- 1 where an a is above 0
abbrev pub told_a : ℕ → ℕ
told_a a = bit (not (eqb a 0))

-- ---- the rows of the table

tags-at : passes (λ (k : ℕ). eqb (get_or ruled_tags k 0) k) 20 ≡ true
unfolding ruled_tags
tags-at = refl

numbers-at : (tag : ℕ) (d : List (List ℕ)) → tag ≤ 19 → get_or (map rule_numbers ruled_tags) tag d ≡ rule_numbers tag
unfolding ruled_tags
numbers-at tag d h =
    get_or-map rule_numbers ruled_tags tag 0 d (omega arith)
    ∙ ap rule_numbers (eqb-true _ _ (at (λ (k : ℕ). eqb (get_or ruled_tags k 0) k) 20 tags-at tag (omega arith)))

abbrev rule_at : List ℕ → Rule
rule_at l =
    record { most_a = get_or l 0 0; most_b = get_or l 1 0; no_c = get_or l 2 0; first = get_or l 3 0; second = get_or l 4 0; third = get_or l 5 0; heads = get_or l 6 0 }

rule-again : (tag : ℕ) (b : Bool) (e : List ℕ) → rule_at (get_or (rule_numbers tag) (bit b) e) ≡ rule_of tag (bit b)
unfolding rule_numbers rule_of bit
rule-again tag true e = refl
rule-again tag false e = refl

pub rule-at : (tag : ℕ) (b : Bool) (d : List (List ℕ)) (e : List ℕ) → tag ≤ 19 → rule_at (get_or (get_or (map rule_numbers ruled_tags) tag d) (bit b) e) ≡ rule_of tag (bit b)
rule-at tag b d e h = ap (λ (l : List (List ℕ)). rule_at (get_or l (bit b) e)) (numbers-at tag d h) ∙ rule-again tag b e

-- ---- heads

all-heads : passes (λ (tag : ℕ). passes (λ (head : ℕ). agree (has_bit (rule_of tag (told_a 1)).heads head) (may_follow head tag)) 32) 20 ≡ true
unfolding rule_of has_bit set_below may_follow is_type_tag is_child between bit
all-heads = refl

many-heads : (tag head : ℕ) → 31 < head → may_follow 31 tag ≡ may_follow head tag
unfolding may_follow is_child
many-heads tag head l =
    rw (ne_eqb head 3 (λ e. omega arith), ne_eqb head 4 (λ e. omega arith), ne_eqb head 5 (λ e. omega arith), ne_eqb head 6 (λ e. omega arith), ne_eqb head 7 (λ e. omega arith), lt-leb head 2 (omega arith)) refl

pub heads-follow : (tag head : ℕ) → tag ≤ 19 → in_heads (rule_of tag (told_a 1)).heads head ≡ may_follow head tag
heads-follow tag head h = heads-told (λ (t : ℕ). (rule_of t (told_a 1)).heads) may_follow 20 all-heads tag head (omega arith) (many-heads tag head)

-- a tag that is not known stands behind no head
pub unknown-follows : (head tag : ℕ) → 19 < tag → false ≡ may_follow head tag
unfolding may_follow is_type_tag is_child between
unknown-follows head tag h =
    rw (
      lt-leb tag 8 (omega arith),
      lt-leb tag 17 (omega arith),
      ne_eqb tag 2 (λ e. omega arith),
      ne_eqb tag 9 (λ e. omega arith),
      ne_eqb tag 10 (λ e. omega arith),
      ne_eqb tag 18 (λ e. omega arith),
      ne_eqb tag 19 (λ e. omega arith),
      and-false (leb 3 tag),
      and-false (leb 11 tag),
      and-false (leb head 2),
      and-false (eqb head 3),
      and-false (eqb head 4),
      and-false (eqb head 5),
      and-false (eqb head 6),
      and-false (eqb head 7),
    )
    refl

-- ---- a, b and c

a-newtype : (a : ℕ) → leb a 5 && not (eqb a 0) ≡ leb 1 a && leb a 5
a-newtype zero = refl
a-newtype (suc a) = rw (ne_eqb (suc a) 0 (λ e. omega arith), le-leb 1 (suc a) (omega arith)) (and-true (leb (suc a) 5))

-- the greatest of a number: one that is given, 1, any, or 0
most-by : (top : ℕ) (y o p : Bool) (x : ℕ) → x ≤ 4294967295 → leb x (if y then top else if o then 1 else if p then 4294967295 else 0) ≡ (if y then leb x top else if o then leb x 1 else (p || eqb x 0))
most-by top true o p x h = refl
most-by top false true p x h = refl
most-by top false false true x h = le-leb x 4294967295 h
most-by top false false false zero h = refl
most-by top false false false (suc x) h = rw (lt-leb (suc x) 0 (omega arith), ne_eqb (suc x) 0 (λ e. omega arith)) refl

a-by : (n y o p : Bool) (a : ℕ) → a ≤ 4294967295 → leb a (if n then 5 else if y then 5 else if o then 1 else if p then 4294967295 else 0) && not (n && eqb a 0)
    ≡ (if n then leb 1 a && leb a 5 else if y then leb a 5 else if o then leb a 1 else (p || eqb a 0))
a-by true y o p a h = a-newtype a
a-by false y o p a h = and-true _ ∙ most-by 5 y o p a h

a-told : (tag a : ℕ) → a ≤ 4294967295 → leb a (most_a tag) && not (eqb tag 5 && eqb a 0) ≡ form_a tag a
unfolding most_a form_a is_flag between
a-told tag a h = a-by (eqb tag 5) (eqb tag 7 || between 9 10 tag || eqb tag 19) (eqb tag 8) (between 12 13 tag || between 16 17 tag) a h

b-told : (tag a b : ℕ) → b ≤ 4294967295 → leb b (rule_of tag a).most_b ≡ form_b tag b
unfolding rule_of most_b form_b is_flag
b-told tag a b h = most-by 3 (eqb tag 9) (eqb tag 19) (between 12 13 tag) b h

c-by : (h f t z x : Bool) → (f && t ≡ true → h ≡ false) → (if f && t then x else h || z) ≡ h || (if f && t then x else z)
c-by h true true z x e = rw (e refl) refl
c-by h true false z x e = refl
c-by h false t z x e = refl

pub c-told : (tag a b c : ℕ) → (if eqb tag 9 && eqb b 3 then leb 2 c else (eqb (rule_of tag a).no_c 0 || eqb c 0)) ≡ form_c tag b c
unfolding rule_of form_c between
c-told tag a b c = rw (bit-none (between 2 8 tag)) (c-by (between 2 8 tag) (eqb tag 9) (eqb b 3) (eqb c 0) (leb 2 c) (λ e. rw (eqb-true tag 9 (and-true-left _ _ e)) refl))

-- ---- pairs

opaque-flag : (tag a : ℕ) → form_a tag a ≡ true → eqb tag 8 ≡ true → a ≤ 1
unfolding form_a is_flag between
opaque-flag tag a f e = leb-true a 1 (rw (eqb-true tag 8 e) at f)

pairs-more : (tag a : ℕ) → form_a tag (suc a) ≡ true → used_pairs tag (suc a) ≡ used_pairs tag 1
unfolding used_pairs
pairs-more tag a f =
    bool_cases (eqb tag 8)
    (λ e. let l = opaque-flag tag (suc a) f e in let one : suc a ≡ 1 = omega arith in rw one refl)
    (λ e. rw (e, ne_eqb (suc a) 0 (λ q. omega arith)) refl)

pairs-told : (tag a : ℕ) → form_a tag a ≡ true → used_pairs tag (told_a a) ≡ used_pairs tag a
unfolding bit
pairs-told tag zero f = refl
pairs-told tag (suc a) f = rw (ne_eqb (suc a) 0 (λ q. omega arith)) (sym (pairs-more tag a f))

module _ (tag a : ℕ) (f : form_a tag a ≡ true) where
  pub first-told : (rule_of tag (told_a a)).first ≡ bit (leb 1 (used_pairs tag a))
  unfolding rule_of
  first-told = ap (λ (n : ℕ). bit (leb 1 n)) (pairs-told tag a f)

  pub second-told : (rule_of tag (told_a a)).second ≡ bit (leb 2 (used_pairs tag a))
  unfolding rule_of
  second-told = ap (λ (n : ℕ). bit (leb 2 n)) (pairs-told tag a f)

  pub third-told : (rule_of tag (told_a a)).third ≡ bit (leb 3 (used_pairs tag a))
  unfolding rule_of
  third-told = ap (λ (n : ℕ). bit (leb 3 n)) (pairs-told tag a f)

-- what is told by 0 or 1
module _ (tag a : ℕ) where
  pub c-small : (rule_of tag a).no_c ≤ 1
  unfolding rule_of
  c-small = bit-small (not (between 2 8 tag))

  pub first-small : (rule_of tag a).first ≤ 1
  unfolding rule_of
  first-small = bit-small (leb 1 (used_pairs tag a))

  pub second-small : (rule_of tag a).second ≤ 1
  unfolding rule_of
  second-small = bit-small (leb 2 (used_pairs tag a))

  pub third-small : (rule_of tag a).third ≤ 1
  unfolding rule_of
  third-small = bit-small (leb 3 (used_pairs tag a))

-- ---- the form of a row

known : (w n : Bool) → not w || n ≡ false → (w ≡ true) × (n ≡ false)
known true n e = (refl, e)
known false n e = absurd (false≢true (sym e))

fails-by : (w m n b c : Bool) {a : Bool} → not w || n ≡ true → m && not n ≡ a → false ≡ w && a && b && c
fails-by false m n b c e f = refl
fails-by true m true b c e f = rw (← f, and-false m) refl
fails-by true m false b c e f = absurd (false≢true e)

form-by : (w n m a b c : Bool) {l v : Bool} → w ≡ true → n ≡ false → m && not n ≡ a → l ≡ b → v ≡ c → m && l && v ≡ w && a && b && c
form-by w n m a b c e f g h i = rw (e, ← g, f, h, i, and-true m) refl

-- a tag that is known, with an inner type where it is a newtype
abbrev pub is_known : ℕ → ℕ → Bool
is_known tag a = not (between 2 19 tag) || (eqb tag 5 && eqb a 0)

pub known-tag : (tag a : ℕ) → is_known tag a ≡ false → tag ≤ 19
unfolding between
known-tag tag a e = leb-true tag 19 (and-true-right (leb 2 tag) (leb tag 19) (known (between 2 19 tag) (eqb tag 5 && eqb a 0) e).0)

module _ (t : Ten) (small : t.a ≤ 4294967295) where
  pub form-fails : is_known t.tag t.a ≡ true → false ≡ ten_form t
  unfolding ten_form
  form-fails e = fails-by (between 2 19 t.tag) (leb t.a (most_a t.tag)) (eqb t.tag 5 && eqb t.a 0) (form_b t.tag t.b) (form_c t.tag t.b t.c) e (a-told t.tag t.a small)

  pub form-told : is_known t.tag t.a ≡ false → t.b ≤ 4294967295 → {v : Bool} → v ≡ form_c t.tag t.b t.c
      → leb t.a (rule_of t.tag (told_a t.a)).most_a && leb t.b (rule_of t.tag (told_a t.a)).most_b && v ≡ ten_form t
  unfolding ten_form rule_of
  form-told e b v =
      let k = known (between 2 19 t.tag) (eqb t.tag 5 && eqb t.a 0) e in
      form-by (between 2 19 t.tag) (eqb t.tag 5 && eqb t.a 0) (leb t.a (most_a t.tag)) (form_a t.tag t.a) (form_b t.tag t.b) (form_c t.tag t.b t.c) k.0 k.1 (a-told t.tag t.a small) (b-told t.tag (told_a t.a) t.b b) v

pub form-tag : (t : Ten) → ten_form t ≡ true → t.tag ≤ 19
unfolding ten_form between
form-tag t e = leb-true t.tag 19 (and-true-right (leb 2 t.tag) (leb t.tag 19) (and-true-left _ _ (and-true-left _ _ (and-true-left _ _ e))))

pub form-flag : (t : Ten) → ten_form t ≡ true → form_a t.tag t.a ≡ true
unfolding ten_form
form-flag t e = and-true-right (between 2 19 t.tag) _ (and-true-left _ _ (and-true-left _ _ e))
