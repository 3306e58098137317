-- Laws of specs/Text.antt. No contract cites them. Assumes nothing.
use Rattle.std.specs.Prelude.{if◌then◌else◌}
use mathlib.Core.Path.{◌≡◌, refl, ap}
use mathlib.Core.Bool.{Bool, true, false, false≢true}
use mathlib.Core.List.{[], ◌∷◌}
use Prim.Native.Nat.{ℕ, zero, suc, ◌+◌, ◌-◌, ◌≤◌, ◌<◌}
use native.Mathlib.Omega.{arith}
use lib.Dec.{eqb, leb}
use lib.ListN.{length, get_or, drop, drop_of_length-le}
use lib.Seq.{drop-cons, drop-nil}
use borrow.Author.Tests.{leb-true, lt-leb, le-leb, eqb-true, eq-eqb, ne_eqb, ltb-true, lt-ltb}
use Rattle.std.proofs.lemmas.Bool.{false_from_ne_true}
use Rattle.text.proofs.Laws.Tests.{and-true-left, and-true-right, if-cases}
use Rattle.text.specs.Text.{Text, between, is_upper, is_lower, upper_byte, lower_byte, is_plain_byte, first, same, after_last}

pub between-low : (low high b : ℕ) → between low high b ≡ true → low ≤ b
unfolding between
between-low low high b e = leb-true low b (and-true-left (leb low b) (leb b high) e)

pub between-high : (low high b : ℕ) → between low high b ≡ true → b ≤ high
unfolding between
between-high low high b e = leb-true b high (and-true-right (leb low b) (leb b high) e)

pub between-below : (low high b : ℕ) → b < low → between low high b ≡ false
unfolding between
between-below low high b h = rw (lt-leb low b h)

pub between-above : (low high b : ℕ) → low ≤ b → between low high b ≡ leb b high
unfolding between
between-above low high b h = rw (le-leb low b h)

pub lower-of-other : (b : ℕ) → is_upper b ≡ false → lower_byte b ≡ b
unfolding lower_byte
lower-of-other b e = rw e

pub first-drop : (s : Text) (i : ℕ) → first (drop i s) ≡ get_or s i 0
unfolding first
first-drop [] i = rw (drop-nil {A = ℕ} i)
first-drop (b ∷ s) zero = refl
first-drop (b ∷ s) (suc i) = first-drop s i

pub same_refl : (s : Text) → same s s ≡ true
unfolding same
same_refl [] = refl
same_refl (b ∷ s) = rw (eq-eqb b b refl, same_refl s)

pub same-eq : (s t : Text) → same s t ≡ true → s ≡ t
unfolding same
same-eq [] [] e = refl
same-eq [] (c ∷ t) e = absurd (false≢true e)
same-eq (b ∷ s) [] e = absurd (false≢true e)
same-eq (b ∷ s) (c ∷ t) e =
    let h : b ≡ c = eqb-true b c (and-true-left (eqb b c) (same s t) e) in
    let r : s ≡ t = same-eq s t (and-true-right (eqb b c) (same s t) e) in
    cc

pub same-differ : (s t : Text) → (s ≡ t → ⊥) → same s t ≡ false
same-differ s t h = false_from_ne_true (same s t) (λ e. h (same-eq s t e))

-- two texts from place i on: the bytes there decide, or the rest does
pub same-hit : (s t : Text) (i : ℕ) → i < length s → i < length t → (get_or s i 0 ≡ get_or t i 0 → ⊥) → same (drop i s) (drop i t) ≡ false
unfolding same
same-hit s t i h k e = rw (drop-cons s i 0 h, drop-cons t i 0 k, ne_eqb (get_or s i 0) (get_or t i 0) e)

pub same-on : (s t : Text) (i : ℕ) → i < length s → i < length t → get_or s i 0 ≡ get_or t i 0 → same (drop i s) (drop i t) ≡ same (drop (suc i) s) (drop (suc i) t)
unfolding same
same-on s t i h k e = rw (drop-cons s i 0 h, drop-cons t i 0 k, eq-eqb (get_or s i 0) (get_or t i 0) e)

-- what is kept at place i: the rest behind a separator there, or what was kept
pub after_last-hit : (c : ℕ) (kept s : Text) (i : ℕ) → i < length s → get_or s i 0 ≡ c → after_last c kept (drop i s) ≡ after_last c (drop (suc i) s) (drop (suc i) s)
unfolding after_last
after_last-hit c kept s i h e = rw (drop-cons s i 0 h) (ap (λ (b : Bool). after_last c (if b then drop (suc i) s else kept) (drop (suc i) s)) (eq-eqb (get_or s i 0) c e))

pub after_last-on : (c : ℕ) (kept s : Text) (i : ℕ) → i < length s → (get_or s i 0 ≡ c → ⊥) → after_last c kept (drop i s) ≡ after_last c kept (drop (suc i) s)
unfolding after_last
after_last-on c kept s i h e = rw (drop-cons s i 0 h) (ap (λ (b : Bool). after_last c (if b then drop (suc i) s else kept) (drop (suc i) s)) (ne_eqb (get_or s i 0) c e))

pub after_last-end : (c : ℕ) (kept s : Text) (i : ℕ) → length s ≤ i → after_last c kept (drop i s) ≡ kept
unfolding after_last
after_last-end c kept s i h = rw (drop_of_length-le s h)

pub same_end : (s t : Text) (i : ℕ) → length s ≤ i → length t ≤ i → same (drop i s) (drop i t) ≡ true
unfolding same
same_end s t i h k = rw (drop_of_length-le s h, drop_of_length-le t k)

-- two texts from their first bytes on
pub same-cons-on : (b c : ℕ) (s t : Text) → b ≡ c → same (b ∷ s) (c ∷ t) ≡ same s t
unfolding same
same-cons-on b c s t e = rw (eq-eqb b c e)

pub same-cons-differ : (b c : ℕ) (s t : Text) → (b ≡ c → ⊥) → same (b ∷ s) (c ∷ t) ≡ false
unfolding same
same-cons-differ b c s t h = rw (ne_eqb b c h)

pub upper-plain : (b : ℕ) → is_plain_byte b ≡ true → is_plain_byte (upper_byte b) ≡ true
unfolding upper_byte is_plain_byte
upper-plain b e =
    let h : b < 128 = ltb-true b 128 e in
    if-cases (λ r. is_plain_byte r ≡ true) (is_lower b) (λ l. lt-ltb (b - 32) 128 (omega arith)) (λ l. e)

pub lower-plain : (b : ℕ) → is_plain_byte b ≡ true → is_plain_byte (lower_byte b) ≡ true
unfolding lower_byte is_plain_byte
lower-plain b e = if-cases (λ r. is_plain_byte r ≡ true) (is_upper b) (λ u. lt-ltb (b + 32) 128 (omega (arith, between-high 65 90 b u))) (λ u. e)
