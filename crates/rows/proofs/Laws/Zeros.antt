-- Laws of zeros: the bits of all numbers together are none where each number is 0. Assumes nothing.
use mathlib.Core.Path.{◌≡◌, refl, sym, ap, ◌∙◌}
use mathlib.Core.Bool.{Bool, ◌&&◌, and_assoc, and-true}
use mathlib.Core.List.{List, [], ◌∷◌}
use Prim.Native.Nat.{ℕ, zero, suc}
use native.Mathlib.Omega.{arith}
use lib.Dec.{eqb}
use borrow.Author.Tests.{ne_eqb}
use Rattle.std.specs.Int.Bits.{bit_or, or_zero_l}
use Rattle.std.specs.List.{fold}
use Rattle.std.proofs.lemmas.Nat.{le_or_l}
use Rattle.sheet.specs.Rows.{all_zero}

or-zero : (a b : ℕ) → eqb (bit_or a b) 0 ≡ eqb a 0 && eqb b 0
or-zero zero b = ap (λ (n : ℕ). eqb n 0) (or_zero_l b)
or-zero (suc a) b = rw (ne_eqb (bit_or (suc a) b) 0 (λ e. omega (arith, le_or_l (suc a) b, e)), ne_eqb (suc a) 0 (λ e. omega arith)) refl

pub folds-zero : (s : List ℕ) (bits : ℕ) → eqb (fold bit_or bits s) 0 ≡ eqb bits 0 && all_zero s
unfolding all_zero
folds-zero [] bits = sym (and-true (eqb bits 0))
folds-zero (x ∷ s) bits = folds-zero s (bit_or bits x) ∙ ap (λ (b : Bool). b && all_zero s) (or-zero bits x) ∙ and_assoc (eqb bits 0) (eqb x 0) (all_zero s)
