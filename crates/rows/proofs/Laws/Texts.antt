-- A row's used texts: their bytes, and their store one behind the other. By computation. Assumes nothing.
use Prim.Native.Nat.{ℕ, zero, suc, ◌+◌, ◌-◌, ◌≤◌}
use mathlib.Core.Path.{◌≡◌, refl, ap, ◌∙◌}
use lib.Seq.{paste, paste-zero}
use Rattle.buffer.proofs.Laws.Copy.{paste-paste}
use mathlib.Core.List.{List, [], ◌∷◌, append-nil}
use native.Mathlib.Nat.{le_refl, le-add_right, add-zero}
use native.Mathlib.Omega.{arith}
use lib.ListN.{length, length-append}
use Rattle.text.specs.Text.{Text, join}
use Rattle.rows.specs.Texts.{used_texts, used_length}

pub used-first : (n a b : ℕ) → (n ≡ 0 → ⊥) → a ≤ used_length n a b
used-first zero a b h = absurd (h refl)
used-first (suc zero) a b h = le_refl a
used-first (suc (suc n)) a b h = le-add_right a b

pub used-both : (n a b : ℕ) → (n ≡ 0 → ⊥) → (n ≡ 1 → ⊥) → used_length n a b ≡ a + b
used-both zero a b h k = absurd (h refl)
used-both (suc zero) a b h k = absurd (k refl)
used-both (suc (suc n)) a b h k = refl

-- the bytes of the used texts
pub used-bytes : (n : ℕ) (t u : Text) → n ≤ 2 → length (join (used_texts n t u)) ≡ used_length n (length t) (length u)
unfolding join
used-bytes zero t u h = refl
used-bytes (suc zero) t u h = rw append-nil
used-bytes (suc (suc zero)) t u h = rw (append-nil, length-append)
used-bytes (suc (suc (suc n))) t u h = omega arith

-- a row's first text, and the rest
pub used-rest : (n a b : ℕ) → 1 ≤ n → n ≤ 2 → used_length n a b ≡ a + used_length (n - 1) b b
used-rest zero a b h k = omega arith
used-rest (suc zero) a b h k = rw add-zero
used-rest (suc (suc zero)) a b h k = refl
used-rest (suc (suc (suc n))) a b h k = omega arith

pub texts-rest : (n : ℕ) (t u : Text) → 1 ≤ n → n ≤ 2 → used_texts n t u ≡ t ∷ used_texts (n - 1) u u
texts-rest zero t u h k = absurd (let no : ⊥ = omega arith in no)
texts-rest (suc zero) t u h k = refl
texts-rest (suc (suc zero)) t u h k = refl
texts-rest (suc (suc (suc n))) t u h k = absurd (let no : ⊥ = omega arith in no)

-- the used texts, stored one behind the other
module _ (d t u : List ℕ) (at : ℕ) where
  pub store-none : {n : ℕ} → n ≡ 0 → d ≡ paste d at (join (used_texts n t u)) (used_length n (length t) (length u))
  unfolding join
  store-none e = rw e (paste-zero d at [])

  pub store-one : {n : ℕ} {e : List ℕ} → n ≡ 1 → e ≡ paste d at t (length t) → e ≡ paste d at (join (used_texts n t u)) (used_length n (length t) (length u))
  unfolding join
  store-one p h = rw (p, append-nil) h

  pub store_two : {n : ℕ} {e f : List ℕ} → n ≡ 2 → at + (length t + length u) ≤ length d → e ≡ paste d at t (length t) → f ≡ paste e (at + length t) u (length u)
      → f ≡ paste d at (join (used_texts n t u)) (used_length n (length t) (length u))
  unfolding join
  store_two p room h k = rw (p, append-nil) (k ∙ ap (λ (l : List ℕ). paste l (at + length t) u (length u)) h ∙ paste-paste d t u at room)
