-- Laws of the cut at a byte. Assumes nothing.
use Prim.Native.Nat.{ℕ, zero, suc, ◌<◌}
use mathlib.Core.Logic.{◌≢◌}
use mathlib.Core.Path.{◌≡◌, refl, ap}
use mathlib.Core.List.{[], ◌∷◌}
use native.Mathlib.Omega.{arith}
use lib.ListN.{length, get_or, take, drop}
use borrow.Author.Tests.{eq-eqb, ne_eqb}
use Rattle.text.specs.Text.{Text}
use Rattle.program.specs.Lines.{before_first, behind_first}

-- the cut by the place of the byte
pub before-at : (c : ℕ) (s : Text) (i : ℕ) → i < length s → get_or s i 0 ≡ c → ((k : ℕ) → k < i → get_or s k 0 ≢ c) → before_first c s ≡ take i s
unfolding before_first
before-at c [] i inside here before = absurd (omega arith)
before-at c (b ∷ s) zero inside here before = rw (eq-eqb b c here)
before-at c (b ∷ s) (suc i) inside here before =
    rw (ne_eqb b c (before 0 (omega arith))) (ap (λ (t : Text). b ∷ t) (before-at c s i (omega arith) here (λ k below. before (suc k) (omega arith))))

pub behind-at : (c : ℕ) (s : Text) (i : ℕ) → i < length s → get_or s i 0 ≡ c → ((k : ℕ) → k < i → get_or s k 0 ≢ c) → behind_first c s ≡ drop (suc i) s
unfolding behind_first
behind-at c [] i inside here before = absurd (omega arith)
behind-at c (b ∷ s) zero inside here before = rw (eq-eqb b c here)
behind-at c (b ∷ s) (suc i) inside here before =
    rw (ne_eqb b c (before 0 (omega arith))) (behind-at c s i (omega arith) here (λ k below. before (suc k) (omega arith)))

-- and where the byte stands nowhere
pub before-none : (c : ℕ) (s : Text) → ((k : ℕ) → k < length s → get_or s k 0 ≢ c) → before_first c s ≡ s
unfolding before_first
before-none c [] none = refl
before-none c (b ∷ s) none = rw (ne_eqb b c (none 0 (omega arith))) (ap (λ (t : Text). b ∷ t) (before-none c s (λ k below. none (suc k) (omega arith))))

pub behind-none : (c : ℕ) (s : Text) → ((k : ℕ) → k < length s → get_or s k 0 ≢ c) → behind_first c s ≡ []
unfolding behind_first
behind-none c [] none = refl
behind-none c (b ∷ s) none = rw (ne_eqb b c (none 0 (omega arith))) (behind-none c s (λ k below. none (suc k) (omega arith)))
