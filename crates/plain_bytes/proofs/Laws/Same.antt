-- Two parts that are the same byte by byte, or by words of eight bytes. Assumes nothing.
use Prim.Native.Nat.{ℕ, ◌+◌, ◌-◌, ◌≤◌, ◌<◌}
use mathlib.Core.Path.{◌≡◌, sym, ap, subst, ◌∙◌}
use mathlib.Core.Bool.{true, false}
use mathlib.Core.List.{append-nil, ◌++◌}
use native.Mathlib.Omega.{arith}
use lib.Dec.{ltb}
use lib.ListN.{length, get_or, drop_of_length-le}
use borrow.Author.Tests.{ltb-true, ltb-false}
use Rattle.std.proofs.lemmas.List.Prefix.{front_from_reads}
use Rattle.text.specs.Text.{Text, same}
use Rattle.text.proofs.Laws.Tests.{bool_cases}
use Rattle.text.proofs.Laws.Texts.{same-eq, same_refl}
use Rattle.plain_bytes.specs.Words.{word_of_bytes, bytes_at, WordAt}
use Rattle.plain_bytes.specs.Laws.Words.{word-same}

-- the first n bytes are the same
abbrev pub Alike : Text → Text → ℕ → Type 0
Alike x y n = (k : ℕ) → k < n → get_or x k 0 ≡ get_or y k 0

pub alike-same : (x y : Text) → length x ≡ length y → Alike x y (length x) → same x y ≡ true
alike-same x y e h =
    let p : y ≡ x = front_from_reads 0 y x (omega arith) (λ i l. sym (h i l)) ∙ ap (λ (r : Text). x ++ r) (drop_of_length-le y (omega arith)) ∙ append-nil x in
    subst (λ (t : Text). same x t ≡ true) (sym p) (same_refl x)

pub byte-differs : (x y : Text) (k : ℕ) → (get_or x k 0 ≡ get_or y k 0 → ⊥) → same x y ≡ false
byte-differs x y k d = bool_cases (same x y) (λ h. absurd (d (ap (λ (s : Text). get_or s k 0) (same-eq x y h)))) (λ h. h)

module _ {x y : Text} {i v w : ℕ} (p : WordAt x i v) (q : WordAt y i w) where
  pub word-differs : (v ≡ w → ⊥) → same x y ≡ false
  word-differs d =
      bool_cases (same x y)
      (λ h. absurd (d (p.word ∙ ap (λ (s : Text). word_of_bytes 8 (bytes_at s i)) (same-eq x y h) ∙ sym q.word)))
      (λ h. h)

  pub word-alike : v ≡ w → Alike x y i → Alike x y (i + 8)
  word-alike e before k l =
      bool_cases (ltb k i)
      (λ t. before k (ltb-true k i t))
      (λ t.
      let b : i ≤ k = ltb-false k i t in
      let f : i + (k - i) ≡ k = omega arith in
      subst (λ (n : ℕ). get_or x n 0 ≡ get_or y n 0) f
      (word-same 8 (bytes_at x i) (bytes_at y i) p.bytes q.bytes (sym p.word ∙ e ∙ q.word) (k - i) (omega arith)))
