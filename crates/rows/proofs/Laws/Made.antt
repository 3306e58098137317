-- A row's ten numbers where it uses none, one or two pairs. By computation. Assumes nothing.
use Prim.Native.Nat.{ℕ, ◌+◌}
use mathlib.Core.Path.{◌≡◌}
use mathlib.Core.List.{[], ◌∷◌}
use lib.ListN.{length}
use Rattle.text.specs.Text.{Text}
use Rattle.sheet.specs.Rows.{row, numbers, pack_row, pairs}
use Rattle.rows.specs.declared.numbers.RowNumbers.{RowNumbers}
use Rattle.rows.specs.Texts.{used_texts}
use Rattle.rows.specs.Packing.{row_of, numbers_of}

module _ (k : ℕ) (x : RowNumbers) (t u : Text) where
  pub numbers-none : {n : ℕ} → n ≡ 0 → x.tag ∷ 0 ∷ 0 ∷ 0 ∷ 0 ∷ 0 ∷ 0 ∷ x.a ∷ x.b ∷ x.c ∷ [] ≡ numbers_of k (row_of x (used_texts n t u))
  unfolding numbers_of numbers pack_row pairs row
  numbers-none e = rw e

  pub numbers-one : {n a : ℕ} → n ≡ 1 → length t ≡ a → x.tag ∷ k ∷ a ∷ 0 ∷ 0 ∷ 0 ∷ 0 ∷ x.a ∷ x.b ∷ x.c ∷ [] ≡ numbers_of k (row_of x (used_texts n t u))
  unfolding numbers_of numbers pack_row pairs row
  numbers-one e f = rw (e, f)

  pub numbers-two : {n a b : ℕ} → n ≡ 2 → length t ≡ a → length u ≡ b → x.tag ∷ k ∷ a ∷ (k + a) ∷ b ∷ 0 ∷ 0 ∷ x.a ∷ x.b ∷ x.c ∷ [] ≡ numbers_of k (row_of x (used_texts n t u))
  unfolding numbers_of numbers pack_row pairs row
  numbers-two e f g = rw (e, f, g)
