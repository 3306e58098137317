-- Laws of specs/Columns.antt: a list told by its places, and where a column's numbers stand. No contract cites them. Assumes nothing.
use Rattle.std.proofs.Common.{◌≡◌, ℕ, zero, suc, ◌+◌, ◌*◌, ◌/◌, ◌%◌, ◌<◌, ◌≤◌, [], ◌∷◌, length, get_or, refl, ◌∙◌}
use Rattle.std.proofs.Common.{⊎_elim, mul-le-mul_right, mod-eq_of_lt, suc-mul, eq-or-lt_of_le, arith, length-append}
use native.Mathlib.Nat.{mul-add-mod_self_right, mul-add-div_right, div-eq_of_lt}
use lib.ListN.{get_or-append}
use lib.Seq.{get_or_at}
use Rattle.columns.specs.Columns.{up_to}

pub length-up_to : (n : ℕ) (f : ℕ → ℕ) → length (up_to n f) ≡ n
unfolding up_to
length-up_to zero f = refl
length-up_to (suc n) f = rw (length-append (up_to n f) (f n ∷ []), length-up_to n f) (omega arith)

pub get_d-up_to : (n : ℕ) (f : ℕ → ℕ) (k : ℕ) → k < n → get_or (up_to n f) k 0 ≡ f k
unfolding up_to
get_d-up_to zero f k h = absurd (omega arith)
get_d-up_to (suc n) f k h =
    let b : k ≤ n = omega arith in
    ⊎_elim
    (λ (e : k ≡ n). rw e (get_or_at (up_to n f) (f n) [] 0 n (length-up_to n f)))
    (λ (l : k < n). get_or-append (up_to n f) (f n ∷ []) 0 k (rw (length-up_to n f) l) ∙ get_d-up_to n f k l)
    (eq-or-lt_of_le b)

-- place c * h + r is of column c and row r
module _ (h c r : ℕ) (l : r < h) where
  pub at-column : (c * h + r) / h ≡ c
  at-column = mul-add-div_right {m = h} (omega arith) c r ∙ rw (div-eq_of_lt l) (omega arith)

  pub at_row : (c * h + r) % h ≡ r
  at_row = mul-add-mod_self_right c h r ∙ mod-eq_of_lt l

pub column_fits : (c h : ℕ) → c < 10 → c * h + h ≤ 10 * h
column_fits c h k = let m : suc c * h ≤ 10 * h = mul-le-mul_right h (omega arith) in omega (arith, suc-mul c h)
