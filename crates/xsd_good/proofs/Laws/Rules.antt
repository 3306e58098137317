-- Laws of the table of tags (specs/Rules.antt): its rows are the rules, and what it tells by numbers is what the definitions ask. That its sets are those of the
-- heads behind which a tag may stand is a test that antt computes at all 21 tags and 32 heads. Assumes nothing.
use Rattle.std.specs.Prelude.{if◌then◌else◌}
use Rattle.std.proofs.lemmas.List.{get_or-map}
use Prim.Native.Nat.{ℕ, zero, suc, ◌+◌, ◌≤◌, ◌<◌}
use mathlib.Core.Path.{◌≡◌, refl, ap, ◌∙◌}
use mathlib.Core.Bool.{Bool, true, false, not, ◌&&◌, ◌||◌, and-false}
use mathlib.Core.List.{List, map}
use native.Mathlib.Omega.{arith}
use lib.Dec.{eqb, leb}
use lib.ListN.{get_or}
use borrow.Author.Tests.{eqb-true, leb-true, le-leb, lt-leb, ne_eqb}
use Rattle.text.specs.Text.{between}
use Rattle.text.proofs.Laws.Agree.{agree}
use Rattle.text.proofs.Laws.Table.{passes, at}
use Rattle.text.proofs.Laws.Tests.{bool_cases, if-cases, and-true-left, and-true-right}
use Rattle.sheet.specs.Rows.{bit}
use Rattle.sheet.specs.Form.{is_flag}
use Rattle.rows.specs.Table.{has_bit, set_below, in_heads}
use Rattle.rows.proofs.Laws.Table.{bit-none, bit-small, heads-told}
use Rattle.xsd_types.specs.Good.{used_pairs, is_head, is_child, may_follow, row_form}
use Rattle.xsd_good.specs.declared.forms.rules.Rule.{Rule}
use Rattle.xsd_good.specs.Forms.{a_form}
use Rattle.xsd_good.specs.Rules.{most_a, free_b, rule_of, rule_numbers, ruled_tags}

-- ---- the rows of the table

tags-at : passes (λ (k : ℕ). eqb (get_or ruled_tags k 0) k) 21 ≡ true
unfolding ruled_tags
tags-at = refl

numbers-at : (tag : ℕ) (d : List ℕ) → tag ≤ 20 → get_or (map rule_numbers ruled_tags) tag d ≡ rule_numbers tag
unfolding ruled_tags
numbers-at tag d h =
    get_or-map rule_numbers ruled_tags tag 0 d (omega arith)
    ∙ ap rule_numbers (eqb-true _ _ (at (λ (k : ℕ). eqb (get_or ruled_tags k 0) k) 21 tags-at tag (omega arith)))

abbrev rule_at : List ℕ → Rule
rule_at l = record { most_a = get_or l 0 0; no_b = get_or l 1 0; no_c = get_or l 2 0; first = get_or l 3 0; second = get_or l 4 0; heads = get_or l 5 0 }

rule-again : (tag : ℕ) → rule_at (rule_numbers tag) ≡ rule_of tag
unfolding rule_numbers rule_of
rule-again tag = refl

pub rule-at : (tag : ℕ) (d : List ℕ) → tag ≤ 20 → rule_at (get_or (map rule_numbers ruled_tags) tag d) ≡ rule_of tag
rule-at tag d h = ap rule_at (numbers-at tag d h) ∙ rule-again tag

-- ---- heads

all-heads : passes (λ (tag : ℕ). passes (λ (head : ℕ). agree (has_bit (rule_of tag).heads head) (may_follow head tag)) 32) 21 ≡ true
unfolding rule_of has_bit set_below may_follow is_head is_child between
all-heads = refl

many-heads : (tag head : ℕ) → 31 < head → may_follow 31 tag ≡ may_follow head tag
unfolding may_follow is_child
many-heads tag head l =
    rw (ne_eqb head 16 (λ e. omega arith), ne_eqb head 3 (λ e. omega arith), ne_eqb head 12 (λ e. omega arith), ne_eqb head 13 (λ e. omega arith), ne_eqb head 14 (λ e. omega arith)) refl

pub heads-follow : (tag head : ℕ) → tag ≤ 20 → in_heads (rule_of tag).heads head ≡ may_follow head tag
heads-follow tag head h = heads-told (λ (t : ℕ). (rule_of t).heads) may_follow 21 all-heads tag head (omega arith) (many-heads tag head)

told-heads : passes (λ (n : ℕ). passes (λ (tag : ℕ). agree (has_bit 126988 tag) (is_head tag)) 32) 1 ≡ true
unfolding has_bit is_head between
told-heads = refl

many-tags : (tag : ℕ) → 31 < tag → is_head 31 ≡ is_head tag
unfolding is_head between
many-tags tag l = rw (lt-leb tag 3 (omega arith), lt-leb tag 16 (omega arith), and-false (leb 2 tag), and-false (leb 12 tag)) refl

-- the set of the tags of heads
pub head-told : (tag : ℕ) → in_heads 126988 tag ≡ is_head tag
head-told tag = heads-told (λ (n : ℕ). 126988) (λ (tag n : ℕ). is_head tag) 1 told-heads 0 tag (omega arith) (many-tags tag)

-- ---- a

a-zero : (p q r y : Bool) → leb 0 (if p || q || r then 4294967295 else if y then 1 else 0) ≡ true
a-zero true q r y = refl
a-zero false true r y = refl
a-zero false false true y = refl
a-zero false false false true = refl
a-zero false false false false = refl

a-more : (p q r y : Bool) (a : ℕ) → 0 < a → a ≤ 4294967295 → leb a (if p || q || r then 4294967295 else if y then 1 else 0) ≡ p || q || r || (y && leb a 1)
a-more true q r y a g h = le-leb a 4294967295 h
a-more false true r y a g h = le-leb a 4294967295 h
a-more false false true y a g h = le-leb a 4294967295 h
a-more false false false true a g h = refl
a-more false false false false a g h = lt-leb a 0 g

a-by : (p q r y : Bool) (a : ℕ) → a ≤ 4294967295 → leb a (if p || q || r then 4294967295 else if y then 1 else 0) ≡ eqb a 0 || p || q || r || (y && leb a 1)
a-by p q r y zero h = a-zero p q r y
a-by p q r y (suc a) h = rw (ne_eqb (suc a) 0 (λ e. omega arith)) (a-more p q r y (suc a) (omega arith) h)

pub a-told : (tag a : ℕ) → a ≤ 4294967295 → leb a (rule_of tag).most_a ≡ a_form tag a
unfolding rule_of most_a a_form is_flag
a-told tag a h = a-by (between 6 7 tag) (between 10 11 tag) (between 17 18 tag) (eqb tag 15 || eqb tag 20) a h

-- ---- pairs

-- an any's a is a flag
any-flag : (tag a : ℕ) → a_form tag a ≡ true → eqb tag 15 ≡ true → a ≤ 1
unfolding a_form is_flag between
any-flag tag zero f e = omega arith
any-flag tag (suc a) f e = leb-true (suc a) 1 (rw (eqb-true tag 15 e, ne_eqb (suc a) 0 (λ q. omega arith)) at f)

any-pairs : (tag a : ℕ) → eqb tag 15 ≡ true → used_pairs tag a ≡ 1 + a
unfolding used_pairs between
any-pairs tag a e = rw (eqb-true tag 15 e) refl

other-pairs : (tag a : ℕ) → eqb tag 15 ≡ false → used_pairs tag 0 ≡ used_pairs tag a
unfolding used_pairs
other-pairs tag a e = rw e refl

few-pairs : (tag : ℕ) → used_pairs tag 0 ≤ 2
unfolding used_pairs
few-pairs tag =
    if-cases (λ (n : ℕ). n ≤ 2) (between 6 7 tag || between 10 11 tag) (λ e. omega arith)
    (λ e. if-cases (λ (n : ℕ). n ≤ 2) (eqb tag 15) (λ f. omega arith) (λ f. if-cases (λ (n : ℕ). n ≤ 2) (between 2 3 tag || eqb tag 14 || between 17 20 tag) (λ g. omega arith) (λ g. omega arith)))

module _ (tag a : ℕ) where
  pub first-told : (rule_of tag).first ≡ bit (leb 1 (used_pairs tag a))
  unfolding rule_of
  first-told =
      bool_cases (eqb tag 15)
      (λ e. rw (any-pairs tag 0 e, any-pairs tag a e, le-leb 1 (1 + 0) (omega arith), le-leb 1 (1 + a) (omega arith)) refl)
      (λ e. rw (other-pairs tag a e) refl)

  module _ (f : a_form tag a ≡ true) where
    second-any : (n : ℕ) → n ≤ 1 → n ≡ bit (leb 2 (1 + n))
    unfolding bit
    second-any zero h = refl
    second-any (suc zero) h = refl
    second-any (suc (suc n)) h = absurd (omega arith)

    pub second-told : (if eqb tag 15 then a else (rule_of tag).second) ≡ bit (leb 2 (used_pairs tag a))
    unfolding rule_of
    second-told =
        bool_cases (eqb tag 15)
        (λ e. rw (e, any-pairs tag a e) (second-any a (any-flag tag a f e)))
        (λ e. rw (e, other-pairs tag a e) refl)

    third-none : (n : ℕ) → n ≤ 2 → 0 ≡ bit (leb 3 n)
    unfolding bit
    third-none n h = rw (lt-leb 3 n (omega arith)) refl

    pub third-told : 0 ≡ bit (leb 3 (used_pairs tag a))
    third-told =
        bool_cases (eqb tag 15)
        (λ e. let l = any-flag tag a f e in rw (any-pairs tag a e) (third-none (1 + a) (omega arith)))
        (λ e. third-none (used_pairs tag a) (rw (← other-pairs tag a e) (few-pairs tag)))

-- ---- the form of a row

in-order : (x y z : Bool) → z && y && x ≡ x && y && z
in-order true true true = refl
in-order true true false = refl
in-order true false true = refl
in-order true false false = refl
in-order false true true = refl
in-order false true false = refl
in-order false false true = refl
in-order false false false = refl

form-by : (w x y z : Bool) {m l n : Bool} → w ≡ true → m ≡ z → l ≡ y → n ≡ x → m && l && n ≡ w && x && y && z
form-by w x y z e f g h = rw (e, f, g, h) (in-order x y z)

turned : (p q z : Bool) → (p || q) || z ≡ z || p || q
turned p q true = bool_cases (p || q) (λ e. rw e refl) (λ e. rw e refl)
turned p q false = bool_cases (p || q) (λ e. rw e refl) (λ e. rw e refl)

pub form-told : (tag a b c : ℕ) → between 2 20 tag ≡ true → a ≤ 4294967295
    → leb a (rule_of tag).most_a && (eqb (rule_of tag).no_b 0 || eqb b 0) && (eqb (rule_of tag).no_c 0 || eqb c 0) ≡ row_form tag a b c
unfolding row_form a_form rule_of free_b
form-told tag a b c h small =
    form-by (between 2 20 tag) (is_head tag || eqb c 0) (eqb b 0 || between 6 7 tag || eqb tag 17) (a_form tag a) h (a-told tag a small)
    (ap (λ (z : Bool). z || eqb b 0) (bit-none (free_b tag)) ∙ turned (between 6 7 tag) (eqb tag 17) (eqb b 0)) (ap (λ (z : Bool). z || eqb c 0) (bit-none (is_head tag)))

pub form-unknown : (tag a b c : ℕ) → between 2 20 tag ≡ false → false ≡ row_form tag a b c
unfolding row_form
form-unknown tag a b c h = rw h refl

pub known-tag : (tag : ℕ) → between 2 20 tag ≡ true → tag ≤ 20
unfolding between
known-tag tag e = leb-true tag 20 (and-true-right (leb 2 tag) (leb tag 20) e)

pub form-tag : (tag a b c : ℕ) → row_form tag a b c ≡ true → tag ≤ 20
unfolding row_form
form-tag tag a b c e = known-tag tag (and-true-left _ _ (and-true-left _ _ (and-true-left _ _ e)))

pub form-flag : (tag a b c : ℕ) → row_form tag a b c ≡ true → a_form tag a ≡ true
unfolding row_form a_form
form-flag tag a b c e = and-true-right _ _ e

-- a tag that is not known stands behind no head
pub unknown-follows : (head tag : ℕ) → 20 < tag → false ≡ may_follow head tag
unfolding may_follow is_head is_child between
unknown-follows head tag h =
    rw (
      lt-leb tag 3 (omega arith),
      lt-leb tag 16 (omega arith),
      lt-leb tag 11 (omega arith),
      lt-leb tag 18 (omega arith),
      ne_eqb tag 19 (λ e. omega arith),
      ne_eqb tag 20 (λ e. omega arith),
      and-false (leb 2 tag),
      and-false (leb 12 tag),
      and-false (leb 4 tag),
      and-false (leb 17 tag),
      and-false (eqb head 3),
      and-false (eqb head 12),
      and-false (eqb head 13),
      and-false (eqb head 14),
      and-false (not (eqb head 16)),
    )
    refl

-- what is told by 0 or 1
module _ (tag : ℕ) where
  pub b-small : (rule_of tag).no_b ≤ 1
  unfolding rule_of
  b-small = bit-small (not (free_b tag))

  pub c-small : (rule_of tag).no_c ≤ 1
  unfolding rule_of
  c-small = bit-small (not (is_head tag))

  pub first-small : (rule_of tag).first ≤ 1
  unfolding rule_of
  first-small = bit-small (leb 1 (used_pairs tag 0))
