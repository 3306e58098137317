-- Named in docs/PORT.md and docs/DESIGN-PASS.md. No contract cites them. Assumes nothing.
use Prim.Native.Nat.{ℕ, ◌<◌}
use native.Mathlib.Omega.{arith}
use mathlib.Core.Path.{◌≡◌, refl}
use mathlib.Core.List.{List, [], ◌∷◌}
use lib.ListN.{get_or, take}
use Rattle.text.specs.Text.{Text}
use Rattle.sheet.specs.Rows.{Ten, unpack_row}
use Rattle.xsd_types.specs.Good.{used_pairs}
use Rattle.xsd_types.specs.Back.{text0, text1}
use Rattle.xsd_write.specs.Puts.{Puts}
use Rattle.xsd_write.proofs.Laws.Rows.{text-none}

pub puts_none : (at : ℕ) (o : List ℕ) → Puts [] at o at o
puts_none at o = record { kept = refl; fits = λ h. (omega arith, refl); past = λ h. omega arith }

-- no text where no pair is used, and no second one where one is
pub first-none : (n : ℕ) (x y z : Text) → n < 1 → get_or (take n (x ∷ y ∷ z ∷ [])) 0 [] ≡ []
first-none n x y z h = text-none n 0 (x ∷ y ∷ z ∷ []) (omega arith)

pub second_none : (n : ℕ) (x y z : Text) → n < 2 → get_or (take n (x ∷ y ∷ z ∷ [])) 1 [] ≡ []
second_none n x y z h = text-none n 1 (x ∷ y ∷ z ∷ []) (omega arith)

module _ (names : List ℕ) (t : Ten) where
  pub text0-none : used_pairs t.tag t.a < 1 → text0 (unpack_row used_pairs names t) ≡ []
  unfolding text0 unpack_row
  text0-none h = first-none (used_pairs t.tag t.a) _ _ _ h

  pub text1-none : used_pairs t.tag t.a < 2 → text1 (unpack_row used_pairs names t) ≡ []
  unfolding text1 unpack_row
  text1-none h = second_none (used_pairs t.tag t.a) _ _ _ h
