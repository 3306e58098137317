-- Named in docs/PORT.md. No contract cites them. Assumes nothing.
use Prim.Native.Nat.{ℕ, ◌+◌, ◌-◌, ◌≤◌, ◌<◌}
use mathlib.Core.Path.{◌≡◌, subst}
use mathlib.Core.Bool.{Bool, true, false}
use native.Mathlib.Omega.{arith}
use lib.ListN.{length, get_or}
use Rattle.text.specs.Text.{Text}
use Rattle.text.proofs.Laws.Table.{passes, at}
use Rattle.text.proofs.Laws.Agree.{agree, agree-eq}
use Rattle.pattern.specs.Answers.{is_bracket}
use Rattle.pattern.specs.Scan.{Mode, go, class_step, pattern_step}

-- in a class a byte that does not close it is read as right behind the opening bracket
pub in_step : (s : Text) (i : ℕ) → i < length s → is_bracket (get_or s i 0) ≡ false → (d : ℕ) → pattern_step (go d Mode.class) (get_or s i 0) ≡ class_step d (get_or s i 0)
unfolding pattern_step is_bracket
in_step s i h n d = rw n

-- two tests that agree at n bytes from one on
pub same_from : (f n : ℕ) (p q : ℕ → Bool) → passes (λ (k : ℕ). agree (p (f + k)) (q (f + k))) n ≡ true → (b : ℕ) → f ≤ b → b < f + n → p b ≡ q b
same_from f n p q e b l h =
    let k : f + (b - f) ≡ b = omega arith in
    subst (λ (m : ℕ). p m ≡ q m) k (agree-eq (p (f + (b - f))) (q (f + (b - f))) (at (λ (j : ℕ). agree (p (f + j)) (q (f + j))) n e (b - f) (omega arith)))
