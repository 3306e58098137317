-- Zeros below the lowest set digit: the bytes of a word that they cover are 0, by induction on the bytes. Assumes nothing.
use Prim.Native.Nat.{ℕ, zero, suc, ◌+◌, ◌-◌, ◌*◌, ◌/◌, ◌%◌, ◌^◌, ◌≤◌, ◌<◌, suc-le-suc}
use mathlib.Core.Path.{◌≡◌, refl, sym}
use native.Mathlib.Omega.{arith}
use native.Mathlib.Nat.{zero-lt-suc, not-suc-le-zero, add-suc, le_of_suc-le-suc, le_of_eq, div-add-mod'}
use lib.Arith.{lt-one}
use lib.Pow.{shr_lt}
use lib.Bits.{block_half, block_odd}
use lib.Count.{under, count_trailing_zeros, trailing_of_zero}
use native.Mathlib.Numerals.{add-one}
use Rattle.plain_bytes.specs.Words.{word_of_bytes}
use Rattle.plain_bytes.specs.Laws.Words.{FirstBelow}

-- zeros below a digit: the digit is 0, and the others are zeros of the rest
under-zero : (d z t : ℕ) → suc t ≤ under d z → (d ≡ 0) × (t ≤ z)
under-zero zero z t h = (refl, le_of_suc-le-suc h)
under-zero (suc d) z t h = absurd (not-suc-le-zero h)

trailing-half : (t m n : ℕ) → suc t ≤ count_trailing_zeros m n → (n % 2 ≡ 0) × (t ≤ count_trailing_zeros (m - 1) (n / 2))
unfolding count_trailing_zeros
trailing-half t zero n h = absurd (not-suc-le-zero h)
trailing-half t (suc m) n h =
    let e : suc m - 1 ≡ m = omega arith in
    rw e (under-zero (n % 2) (count_trailing_zeros m (n / 2)) t h)

-- more zeros than the j low digits: these are 0, and the others are zeros of the rest
block : (j t m a r : ℕ) → r < 2 ^ j → t + j ≤ count_trailing_zeros m (a * 2 ^ j + r) → (r ≡ 0) × (t ≤ count_trailing_zeros (m - j) a)
block zero t m a r l h =
    let e : a * 1 + r ≡ a = omega (arith, lt-one l) in
    let f : m - 0 ≡ m = omega arith in
    let g : t + 0 ≤ count_trailing_zeros m a = rw e at h in
    (lt-one l, rw f (omega arith))
block (suc j) t m a r l h =
    let u = trailing-half (t + j) m (a * 2 ^ suc j + r) (rw add-suc at h) in
    let v = block j t (m - 1) a (r / 2) (shr_lt j 1 (rw add-one l)) (rw (block_half a j r) at u).1 in
    let e : m - suc j ≡ m - 1 - j = omega arith in
    (omega (arith, div-add-mod' r 2, block_odd a j r), rw e v.1)

pub clear : (n : ℕ) (f : ℕ → ℕ) → FirstBelow 256 n f → (m k : ℕ) → k < n → 8 * k + 8 ≤ count_trailing_zeros m (word_of_bytes n f) → f k ≡ 0
unfolding word_of_bytes
clear zero f hf m k l h = absurd (not-suc-le-zero l)
clear (suc n) f hf m zero l h = (block 8 0 m _ (f 0) (hf 0 (zero-lt-suc n)) h).0
clear (suc n) f hf m (suc k) l h =
    clear n (λ j. f (suc j)) (λ j i. hf (suc j) (suc-le-suc i)) (m - 8) k (le_of_suc-le-suc l)
    (block 8 (8 * k + 8) m _ (f 0) (hf 0 (zero-lt-suc n)) (omega arith)).1

pub clear_zero : (n : ℕ) (f : ℕ → ℕ) → FirstBelow 256 n f → word_of_bytes n f ≡ 0 → (k : ℕ) → k < n → f k ≡ 0
clear_zero n f hf e k l = clear n f hf (8 * k + 8) k l (rw e (le_of_eq (sym (trailing_of_zero (8 * k + 8)))))
