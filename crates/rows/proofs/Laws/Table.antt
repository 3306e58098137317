-- Laws of the table of tags (specs/Table.antt): a test told by 0 and 1, and the sets of heads. Assumes nothing.
use Prim.Native.Nat.{ℕ, zero, suc, ◌-◌, ◌*◌, ◌≤◌, ◌<◌}
use mathlib.Core.Path.{◌≡◌, refl, sym, ◌∙◌}
use mathlib.Core.Bool.{Bool, true, false, not, ◌&&◌}
use native.Mathlib.Omega.{arith}
use lib.Dec.{eqb, leb}
use borrow.Author.Tests.{le-leb, lt-leb, leb-true, leb-false}
use Rattle.text.proofs.Laws.Agree.{agree, agree-eq}
use Rattle.text.proofs.Laws.Table.{passes, at}
use Rattle.text.proofs.Laws.Tests.{bool_cases, if-cases}
use Rattle.sheet.specs.Rows.{bit}
use Rattle.sheet.specs.Form.{pair_form}
use Rattle.rows.specs.Table.{has_bit, in_heads}

-- a pair that is used, and one that is not
used-pair : (k at len : ℕ) → eqb at (1 * k) && eqb ((1 - 1) * len) 0 ≡ pair_form true k at len
unfolding pair_form
used-pair k at len =
    let one : 1 * k ≡ k = omega arith in
    let none : (1 - 1) * len ≡ 0 = omega arith in
    rw (one, none) (bool_cases (eqb at k) (λ e. rw e refl) (λ e. rw e refl))

unused-pair : (k at len : ℕ) → eqb at (0 * k) && eqb ((1 - 0) * len) 0 ≡ pair_form false k at len
unfolding pair_form
unused-pair k at len =
    let none : 0 * k ≡ 0 = omega arith in
    let one : (1 - 0) * len ≡ len = omega arith in
    rw (none, one) refl

pub pair-by : (used k at len : ℕ) → used ≤ 1 → eqb at (used * k) && eqb ((1 - used) * len) 0 ≡ pair_form (eqb used 1) k at len
pair-by zero k at len h = unused-pair k at len
pair-by (suc zero) k at len h = used-pair k at len
pair-by (suc (suc n)) k at len h = absurd (omega arith)

pub bit-one : (b : Bool) → eqb (bit b) 1 ≡ b
unfolding bit
bit-one true = refl
bit-one false = refl

pub bit-none : (b : Bool) → eqb (bit (not b)) 0 ≡ b
unfolding bit
bit-none true = refl
bit-none false = refl

pub bit-small : (b : Bool) → bit b ≤ 1
unfolding bit
bit-small true = omega arith
bit-small false = omega arith

-- the place of a head in a set
pub small-head : (heads head : ℕ) → head ≤ 31 → has_bit heads head ≡ in_heads heads head
unfolding in_heads
small-head heads head h = rw (le-leb head 31 h)

pub large-head : (heads head : ℕ) → 31 < head → has_bit heads 31 ≡ in_heads heads head
unfolding in_heads
large-head heads head h = rw (lt-leb head 31 h)

-- ---- sets of heads

-- that a table's sets are those of the heads behind which a tag may stand is computed for n tags and 32 heads; a head from 31 on is as 31
module _ (heads : ℕ → ℕ) (follows : ℕ → ℕ → Bool) (n : ℕ) (told : passes (λ (tag : ℕ). passes (λ (head : ℕ). agree (has_bit (heads tag) head) (follows head tag)) 32) n ≡ true) where
  few-heads : (tag head : ℕ) → tag < n → head ≤ 31 → has_bit (heads tag) head ≡ follows head tag
  few-heads tag head h l =
      agree-eq _ _ (at (λ (k : ℕ). agree (has_bit (heads tag) k) (follows k tag)) 32
      (at (λ (t : ℕ). passes (λ (k : ℕ). agree (has_bit (heads t) k) (follows k t)) 32) n told tag h) head (omega arith))

  pub heads-told : (tag head : ℕ) → tag < n → (31 < head → follows 31 tag ≡ follows head tag) → in_heads (heads tag) head ≡ follows head tag
  unfolding in_heads
  heads-told tag head h many =
      if-cases (λ (k : ℕ). has_bit (heads tag) k ≡ follows head tag) (leb head 31)
      (λ e. few-heads tag head h (leb-true head 31 e))
      (λ e. few-heads tag 31 h (omega arith) ∙ many (leb-false head 31 e))
