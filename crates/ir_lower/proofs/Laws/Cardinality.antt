-- Which occurs give which cardinality. Paper 01: "unbounded gives vec; max above 1 bounded; min 0 and max 1 optional; all else required."
-- Assumes nothing.
use Rattle.std.specs.Prelude.{if◌then◌else◌}
use Prim.Native.Nat.{ℕ, ◌≤◌, ◌<◌}
use mathlib.Core.Path.{◌≡◌, refl, ap}
use mathlib.Core.Logic.{◌↔◌}
use mathlib.Core.Bool.{Bool, true, false, ◌&&◌}
use native.Mathlib.Omega.{arith}
use lib.Dec.{eqb, ltb}
use borrow.Author.Tests.{ltb-true, ltb-false, lt-ltb, le-ltb, eqb-true}
use Rattle.xsd_types.specs.Types.{MaxOccurs}
use Rattle.ir_types.specs.Types.{Cardinality}
use Rattle.ir_lower.specs.Lower.{lower_cardinality}
use Rattle.std.proofs.lemmas.Bool.{false_from_ne_true}
use Rattle.text.proofs.Laws.Tests.{and-true-left, and-true-right}

-- what the two tests of a bounded max give
abbrev chosen : ℕ → Bool → Bool → Cardinality
chosen n above single = if above then Cardinality.bounded_vec n else if single then Cardinality.optional else Cardinality.required

chosen-optional : (n : ℕ) (a s : Bool) → chosen n a s ≡ Cardinality.optional → s ≡ true
chosen-optional n true s e = let z : ◌≡◌ {A = ℕ} 0 1 = cc in absurd (omega arith)
chosen-optional n false true e = refl
chosen-optional n false false e = let z : ◌≡◌ {A = ℕ} 0 1 = cc in absurd (omega arith)

chosen-bounded : (n m : ℕ) (a s : Bool) → chosen n a s ≡ Cardinality.bounded_vec m → (a ≡ true) × (n ≡ m)
chosen-bounded n m true s e = (refl, cc)
chosen-bounded n m false true e = let z : ◌≡◌ {A = ℕ} 0 1 = cc in absurd (omega arith)
chosen-bounded n m false false e = let z : ◌≡◌ {A = ℕ} 0 1 = cc in absurd (omega arith)

chosen-no-vec : (n : ℕ) (a s : Bool) → chosen n a s ≡ Cardinality.vec → ⊥
chosen-no-vec n true s e = let z : ◌≡◌ {A = ℕ} 0 1 = cc in omega arith
chosen-no-vec n false true e = let z : ◌≡◌ {A = ℕ} 0 1 = cc in omega arith
chosen-no-vec n false false e = let z : ◌≡◌ {A = ℕ} 0 1 = cc in omega arith

chosen-required : (n : ℕ) (a s : Bool) → chosen n a s ≡ Cardinality.required → a ≡ false
chosen-required n true s e = let z : ◌≡◌ {A = ℕ} 0 1 = cc in absurd (omega arith)
chosen-required n false s e = refl

pub cardinality-above : (min n : ℕ) → 1 < n → lower_cardinality min (MaxOccurs.bounded n) ≡ Cardinality.bounded_vec n
unfolding lower_cardinality
cardinality-above min n h = rw (lt-ltb 1 n h)

pub cardinality-single : lower_cardinality 0 (MaxOccurs.bounded 1) ≡ Cardinality.optional
unfolding lower_cardinality
cardinality-single = refl

-- "all else required"
pub cardinality-else : (min n : ℕ) → n ≤ 1 → ((min ≡ 0) × (n ≡ 1) → ⊥) → lower_cardinality min (MaxOccurs.bounded n) ≡ Cardinality.required
unfolding lower_cardinality
cardinality-else min n h k =
    let s : eqb min 0 && eqb n 1 ≡ false =
    false_from_ne_true (eqb min 0 && eqb n 1)
    (λ e. k (eqb-true min 0 (and-true-left (eqb min 0) (eqb n 1) e), eqb-true n 1 (and-true-right (eqb min 0) (eqb n 1) e))) in
    rw (le-ltb 1 n h, s)

optional-only : (min : ℕ) (max : MaxOccurs) → lower_cardinality min max ≡ Cardinality.optional → (min ≡ 0) × (max ≡ MaxOccurs.bounded 1)
unfolding lower_cardinality
optional-only min (MaxOccurs.bounded n) e =
    let s = chosen-optional n (ltb 1 n) (eqb min 0 && eqb n 1) e in
    (eqb-true min 0 (and-true-left (eqb min 0) (eqb n 1) s), ap MaxOccurs.bounded (eqb-true n 1 (and-true-right (eqb min 0) (eqb n 1) s)))
optional-only min MaxOccurs.unbounded e = let z : ◌≡◌ {A = ℕ} 0 1 = cc in absurd (omega arith)

pub optional-exactly : (min : ℕ) (max : MaxOccurs) → (lower_cardinality min max ≡ Cardinality.optional) ↔ ((min ≡ 0) × (max ≡ MaxOccurs.bounded 1))
optional-exactly min max = (optional-only min max, λ h. rw (h.0, h.1) cardinality-single)

vec-only : (min : ℕ) (max : MaxOccurs) → lower_cardinality min max ≡ Cardinality.vec → max ≡ MaxOccurs.unbounded
unfolding lower_cardinality
vec-only min (MaxOccurs.bounded n) e = absurd (chosen-no-vec n (ltb 1 n) (eqb min 0 && eqb n 1) e)
vec-only min MaxOccurs.unbounded e = refl

pub cardinality-unbounded : (min : ℕ) → lower_cardinality min MaxOccurs.unbounded ≡ Cardinality.vec
unfolding lower_cardinality
cardinality-unbounded min = refl

pub vec-exactly : (min : ℕ) (max : MaxOccurs) → (lower_cardinality min max ≡ Cardinality.vec) ↔ (max ≡ MaxOccurs.unbounded)
vec-exactly min max = (vec-only min max, λ h. rw h (cardinality-unbounded min))

bounded-only : (min : ℕ) (max : MaxOccurs) (n : ℕ) → lower_cardinality min max ≡ Cardinality.bounded_vec n → (max ≡ MaxOccurs.bounded n) × (1 < n)
unfolding lower_cardinality
bounded-only min (MaxOccurs.bounded m) n e =
    let h = chosen-bounded m n (ltb 1 m) (eqb min 0 && eqb m 1) e in
    (ap MaxOccurs.bounded h.1, rw h.1 at (ltb-true 1 m h.0))
bounded-only min MaxOccurs.unbounded n e = let z : ◌≡◌ {A = ℕ} 0 1 = cc in absurd (omega arith)

pub bounded-exactly : (min : ℕ) (max : MaxOccurs) (n : ℕ) → (lower_cardinality min max ≡ Cardinality.bounded_vec n) ↔ ((max ≡ MaxOccurs.bounded n) × (1 < n))
bounded-exactly min max n = (bounded-only min max n, λ h. rw h.0 (cardinality-above min n h.1))

required-low : (min n : ℕ) → lower_cardinality min (MaxOccurs.bounded n) ≡ Cardinality.required → n ≤ 1
unfolding lower_cardinality
required-low min n e = ltb-false 1 n (chosen-required n (ltb 1 n) (eqb min 0 && eqb n 1) e)

required-not-single : (min n : ℕ) → lower_cardinality min (MaxOccurs.bounded n) ≡ Cardinality.required → (min ≡ 0) × (n ≡ 1) → ⊥
required-not-single min n e h =
    let o : lower_cardinality min (MaxOccurs.bounded n) ≡ Cardinality.optional = (optional-exactly min (MaxOccurs.bounded n)).1 (h.0, ap MaxOccurs.bounded h.1) in
    let z : ◌≡◌ {A = ℕ} 0 1 = cc in
    omega arith

pub required-exactly : (min n : ℕ) → (lower_cardinality min (MaxOccurs.bounded n) ≡ Cardinality.required) ↔ ((n ≤ 1) × ((min ≡ 0) × (n ≡ 1) → ⊥))
required-exactly min n = (λ e. (required-low min n e, required-not-single min n e), λ h. cardinality-else min n h.0 h.1)
