-- The parts of `form_test` one after the other, and what a good form says. Laws of xsd_parser's Tape. No contract cites them. Assumes nothing.
use Rattle.std.specs.Prelude.{if◌then◌else◌}
use mathlib.Core.Logic.{◌⊎◌, inl, inr}
use mathlib.Core.Path.{◌≡◌, sym, ap, ◌∙◌}
use mathlib.Core.Bool.{true, false, ◌&&◌}
use Prim.Native.Nat.{ℕ, ◌*◌, ◌≤◌, ◌<◌}
use native.Mathlib.Omega.{arith}
use lib.Dec.{leb, ltb, eqb}
use borrow.Author.Tests.{leb-true, ltb-true, ltb-false, le-leb, lt-leb, ne_eqb}
use Rattle.text.specs.Text.{between}
use Rattle.text.proofs.Laws.Tests.{and-true-left, and-true-right, bool_cases}
use Rattle.xsd_parser.specs.Kinds.{kind_number}
use Rattle.xsd_parser.specs.declared.kinds.Kind.{Kind}
use Rattle.xsd_parser.specs.Tape.{pair_count, form_test}

module _ (kind count left : ℕ) where
  pub form-below : kind < 1 → form_test kind count left ≡ false
  unfolding form_test between
  form-below h = rw (lt-leb 1 kind h)

  pub form-above : 3 < kind → form_test kind count left ≡ false
  unfolding form_test between
  form-above h = rw (le-leb 1 kind (omega arith), lt-leb kind 3 h)

  pub form-many : 32 < count → form_test kind count left ≡ false
  unfolding form_test
  form-many h = rw (lt-leb count 32 h) (bool_cases (between 1 3 kind) (λ e. rw e) (λ e. rw e))

  pub form-close : kind ≡ 3 → count ≤ 32 → form_test kind count left ≡ eqb count 0
  unfolding form_test between
  form-close e h = rw (e, le-leb count 32 h)

  pub form-tag : 1 ≤ kind → kind ≤ 3 → count ≤ 32 → (kind ≡ 3 → ⊥) → form_test kind count left ≡ leb (2 * pair_count count) left
  unfolding form_test between
  form-tag l u h n = rw (le-leb 1 kind l, le-leb kind 3 u, le-leb count 32 h, ne_eqb kind 3 n)

  -- what a good form says
  pub form-count : form_test kind count left ≡ true → count ≤ 32
  unfolding form_test
  form-count e = leb-true count 32 (and-true-right (between 1 3 kind) (leb count 32) (and-true-left (between 1 3 kind && leb count 32) _ e))

  pub form-room : form_test kind count left ≡ true → (kind ≡ 3 → ⊥) → 2 * pair_count count ≤ left
  unfolding form_test
  form-room e n =
      let r = and-true-right (between 1 3 kind && leb count 32) (if eqb kind 3 then eqb count 0 else leb (2 * pair_count count) left) e in
      leb-true (2 * pair_count count) left (rw (ne_eqb kind 3 n) at r)

-- a kind's number is 1 to 3, and 3 that of a close alone
pub kind-least : (k : Kind) → 1 ≤ kind_number k
kind-least Kind.Start = omega arith
kind-least Kind.Empty = omega arith
kind-least Kind.Close = omega arith

pub kind-most : (k : Kind) → kind_number k ≤ 3
kind-most Kind.Start = omega arith
kind-most Kind.Empty = omega arith
kind-most Kind.Close = omega arith

pub kind-tag : {k : Kind} → (k ≡ Kind.Start) ⊎ (k ≡ Kind.Empty) → kind_number k ≡ 3 → ⊥
kind-tag (inl s) e = omega (arith, sym (ap kind_number s) ∙ e)
kind-tag (inr s) e = omega (arith, sym (ap kind_number s) ∙ e)

-- a number that is no kind's has no good form
pub form-none : (n count left : ℕ) → (n ≡ 1 → ⊥) → (n ≡ 2 → ⊥) → (n ≡ 3 → ⊥) → form_test n count left ≡ false
form-none n count left a b c =
    bool_cases (ltb n 1) (λ e. form-below n count left (ltb-true n 1 e))
    (λ e. form-above n count left (omega (arith, ltb-false n 1 e, a, b, c)))
