-- The bytes below the lowest stop of a word are of the run. What the stops say of one byte is a test that antt computes at all bytes below 128; a
-- word's stops go byte by byte, and the zeros below the lowest cover the bytes without one. Assumes nothing.
use Prim.Native.Nat.{ℕ, ◌+◌, ◌-◌, ◌*◌, ◌/◌, ◌^◌, ◌≤◌, ◌<◌}
use mathlib.Core.Path.{◌≡◌, refl, sym, ap, ap₂, ◌∙◌}
use mathlib.Core.List.{List}
use mathlib.Core.Bool.{Bool, true}
use native.Mathlib.Omega.{arith}
use native.Mathlib.Nat.{le_refl, not-le_of_lt}
use borrow.Author.Tests.{ltb-true, ltb-false}
use lib.Dec.{ltb}
use lib.ListN.{length, get_or}
use lib.Bits.{bit_and, and_block, and_lt}
use lib.Count.{count_trailing_zeros, trailing_le, trailing_of_zero}
use Rattle.text.proofs.Laws.Tests.{bool_cases}
use Rattle.plain_bytes.specs.Scan.{Skips}
use Rattle.plain_bytes.specs.Words.{bytes_at, WordAt, ones}
use Rattle.plain_bytes.specs.Laws.Words.{FirstBelow, op-word, spread, word-le}
use Rattle.plain_bytes.proofs.Laws.Zeros.{clear, clear_zero}
use Rattle.plain_bytes.specs.Laws.Finds.{zero-then, Finds}

-- ---- words without a bit 7

no_top : (b : ℕ) → b < 256 → bit_and b 128 ≡ 0 → b < 128
no_top b l e = ltb-true b 128 (zero-then (λ x. bit_and x 128) (λ x. ltb x 128) 256 refl b l e)

module _ {s : List ℕ} {i w : ℕ} (h : WordAt s i w) where
  low-bytes : bit_and w (128 * ones) ≡ 0 → FirstBelow 128 8 (bytes_at s i)
  low-bytes e k l =
      no_top _ (h.bytes k)
      (clear_zero 8 (λ j. bit_and (bytes_at s i j) 128) (λ j m. and_lt 8 _ 128 (h.bytes j) (omega arith))
      (sym (op-word bit_and and_block refl 8 _ (λ j. 128) (λ j m. h.bytes j) (λ j m. omega arith)) ∙ ap₂ bit_and (sym h.word) (sym (spread 128)) ∙ e) k l)

  pub low_word : bit_and w (128 * ones) ≡ 0 → w < 2 ^ 63
  low_word e =
      let l = low-bytes e in
      omega (arith, h.word, word-le 8 (bytes_at s i) (λ k. 127) (λ k m. omega (arith, l k m)), spread 127)

-- ---- passing over bytes

pub stay : {p : ℕ → Bool} {s : List ℕ} (i : ℕ) → Skips p s i i
stay i = record { from = le_refl i; all = λ k h l. absurd (not-le_of_lt l h) }

module _ {F : ℕ → ℕ → ℕ} {p : ℕ → Bool} (finds : Finds F p) {s : List ℕ} {start i w : ℕ} (before : Skips p s start i)
    (word : WordAt s i w) (low : bit_and w (128 * ones) ≡ 0) (fits : i + 8 ≤ length s) where
  one : (k : ℕ) → k < 8 → 8 * k + 8 ≤ count_trailing_zeros 64 (F ones w) → p (bytes_at s i k) ≡ true
  one k l z =
      let small = low-bytes word low in
      let by = finds.bytewise in
      zero-then (F 1) p 128 finds.sound _ (small k l)
      (clear 8 (λ j. F 1 (bytes_at s i j)) (λ j m. by.small _ (small j m)) 64 k l (rw (word.word, by.word (bytes_at s i) small) at z))

  further : (m : ℕ) → m ≤ 8 → 8 * m ≤ count_trailing_zeros 64 (F ones w) → Skips p s start (i + m)
  further m h z = record {
    from = omega arith;
    all = λ k j l.
        bool_cases (ltb k i)
        (λ t. before.all k j (ltb-true k i t))
        (λ t.
        let b : i ≤ k = ltb-false k i t in
        let e : i + (k - i) ≡ k = omega arith in
        (omega arith, ap (λ (n : ℕ). p (get_or s n 0)) (sym e) ∙ one (k - i) (omega arith) (omega arith)));
  }

  pub to-stop : Skips p s start (i + count_trailing_zeros 64 (F ones w) / 8)
  to-stop = further _ (omega (arith, trailing_le 64 (F ones w))) (omega arith)

  pub past_word : F ones w ≡ 0 → Skips p s start (i + 8)
  past_word e = further 8 (le_refl 8) (omega (arith, ap (count_trailing_zeros 64) e, trailing_of_zero 64))
