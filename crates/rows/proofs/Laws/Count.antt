-- The count of tags that pass a test (specs/Count.antt) is a number that each row raises by one where its tag passes, and that is 0 at the end. Assumes nothing.
use Prim.Native.Nat.{ℕ, zero, suc, ◌+◌, ◌-◌, ◌*◌, ◌≤◌, ◌<◌}
use mathlib.Core.Path.{◌≡◌, sym, ap, ◌∙◌}
use mathlib.Core.Bool.{Bool}
use mathlib.Core.List.{List, map}
use native.Mathlib.Nat.{add-zero}
use native.Mathlib.Omega.{arith}
use lib.ListN.{get_or}
use Rattle.std.specs.Prelude.{cond, count_by}
use Rattle.std.specs.List.{range_with_len}
use Rattle.std.proofs.lemmas.List.Sums.{sum_by-cons}
use Rattle.rows.specs.Count.{tags_counted}

-- `left p`: what is counted from row p on
abbrev pub CountSteps : (ℕ → Bool) → List ℕ → ℕ → (ℕ → ℕ) → Type 0
CountSteps P rows end left = (p : ℕ) → p < end → left p ≡ cond (P (get_or rows (10 * p) 0)) 1 0 + left (p + 1)

module _ (P : ℕ → Bool) (rows : List ℕ) (end : ℕ) (left : ℕ → ℕ) (step : CountSteps P rows end left) (none : left end ≡ 0) where
  counted-from : (n p : ℕ) → p + n ≡ end → count_by P (map (λ (place : ℕ). get_or rows (10 * place) 0) (range_with_len p n)) ≡ left p
  counted-from zero p h = sym none ∙ ap left (sym h ∙ add-zero p)
  counted-from (suc n) p h =
      sum_by-cons (λ (tag : ℕ). cond (P tag) 1 0) (get_or rows (10 * p) 0) (map (λ (place : ℕ). get_or rows (10 * place) 0) (range_with_len (p + 1) n))
      ∙ ap (λ (k : ℕ). cond (P (get_or rows (10 * p) 0)) 1 0 + k) (counted-from n (p + 1) (omega arith))
      ∙ sym (step p (omega arith))

  pub tags-counted : 2 ≤ end → tags_counted P rows end ≡ left 2
  tags-counted h = counted-from (end - 2) 2 (omega arith)
