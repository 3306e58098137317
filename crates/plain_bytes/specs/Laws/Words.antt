-- Words of bytes (specs/Words.antt): a bit operation or a sum of two words is the word of the bytes' operations or sums, by induction on the count
-- of bytes. Assumes nothing.
use Prim.Native.Nat.{ℕ, zero, suc, ◌+◌, ◌*◌, ◌^◌, ◌≤◌, ◌<◌, zero-le, suc-le-suc}
use mathlib.Core.Path.{◌≡◌, refl, ap, ◌∙◌}
use native.Mathlib.Omega.{arith}
use native.Mathlib.Nat.{zero-lt-suc, not-suc-le-zero, le_of_suc-le-suc}
use Rattle.plain_bytes.specs.Words.{word_of_bytes, ones}

-- the first n numbers are below m
abbrev pub FirstBelow : ℕ → ℕ → (ℕ → ℕ) → Type 0
FirstBelow m n f = (k : ℕ) → k < n → f k < m

-- an operation that works on the k low digits and on the rest apart works byte by byte
module _ (op : ℕ → ℕ → ℕ) (block : (k a b r s : ℕ) → r < 2 ^ k → s < 2 ^ k → op (a * 2 ^ k + r) (b * 2 ^ k + s) ≡ op a b * 2 ^ k + op r s) where
  pub op-word : op 0 0 ≡ 0 → (n : ℕ) (f g : ℕ → ℕ) → FirstBelow 256 n f → FirstBelow 256 n g → op (word_of_bytes n f) (word_of_bytes n g) ≡ word_of_bytes n (λ k. op (f k) (g k))
  unfolding word_of_bytes
  op-word e zero f g hf hg = e
  op-word e (suc n) f g hf hg =
      block 8 _ _ (f 0) (g 0) (hf 0 (zero-lt-suc n)) (hg 0 (zero-lt-suc n))
      ∙ ap (λ (x : ℕ). x * 256 + op (f 0) (g 0)) (op-word e n _ _ (λ k h. hf (suc k) (suc-le-suc h)) (λ k h. hg (suc k) (suc-le-suc h)))

pub add-word : (n : ℕ) (f g : ℕ → ℕ) → word_of_bytes n f + word_of_bytes n g ≡ word_of_bytes n (λ k. f k + g k)
unfolding word_of_bytes
add-word zero f g = refl
add-word (suc n) f g = omega (arith, add-word n (λ k. f (suc k)) (λ k. g (suc k)))

-- the same byte eight times
pub spread : (c : ℕ) → c * ones ≡ word_of_bytes 8 (λ k. c * 1)
unfolding word_of_bytes
spread c = omega arith

-- smaller bytes make a smaller word
pub word-le : (n : ℕ) (f g : ℕ → ℕ) → ((k : ℕ) → k < n → f k ≤ g k) → word_of_bytes n f ≤ word_of_bytes n g
unfolding word_of_bytes
word-le zero f g h = zero-le
word-le (suc n) f g h = omega (arith, h 0 (zero-lt-suc n), word-le n _ _ (λ k l. h (suc k) (suc-le-suc l)))

-- equal words of bytes have equal bytes
pub word-same : (n : ℕ) (f g : ℕ → ℕ) → ((k : ℕ) → f k < 256) → ((k : ℕ) → g k < 256) → word_of_bytes n f ≡ word_of_bytes n g → (k : ℕ) → k < n → f k ≡ g k
unfolding word_of_bytes
word-same zero f g hf hg e k l = absurd (not-suc-le-zero l)
word-same (suc n) f g hf hg e zero l = omega (arith, e, hf 0, hg 0)
word-same (suc n) f g hf hg e (suc k) l =
    let r : word_of_bytes n (λ j. f (suc j)) ≡ word_of_bytes n (λ j. g (suc j)) = omega (arith, e, hf 0, hg 0) in
    word-same n (λ j. f (suc j)) (λ j. g (suc j)) (λ j. hf (suc j)) (λ j. hg (suc j)) r k (le_of_suc-le-suc l)
