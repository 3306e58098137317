-- A number's digits are read as the number. Assumes nothing.
use Prim.Native.Nat.{ℕ, zero, suc, ◌+◌, ◌-◌, ◌*◌, ◌/◌, ◌%◌, ◌^◌, ◌<◌}
use native.Mathlib.Omega.{arith}
use native.Mathlib.Nat.{div-add-mod', div-lt_iff_lt-mul, mod-lt, pow-suc}
use mathlib.Core.Path.{◌≡◌, refl, ap₂, ◌∙◌}
use mathlib.Core.Bool.{true}
use mathlib.Core.List.{[], ◌∷◌, ◌++◌}
use lib.Dec.{ltb, lit<}
use borrow.Author.Tests.{ltb-true, le-leb, ne_eqb}
use Rattle.text.specs.Text.{Text, every, is_digit, between}
use Rattle.text.proofs.Laws.Tests.{if-cases, and-true}
use Rattle.text.proofs.Laws.Every.{every-append-true, every-head}
use Rattle.number.specs.Number.{parsed, decimal_value, is_numeral, after_plus, numeral, plain_below, plain_number, number}
use Rattle.number.proofs.Laws.Numbers.{digit-within, below-within}
use Rattle.number.proofs.Laws.Spellings.{number-kept}
use Rattle.xsd_written.specs.Decimal.{decimal_up, decimal}

value-more : (v : ℕ) (d : Text) (b : ℕ) → decimal_value v (d ++ b ∷ []) ≡ decimal_value v d * 10 + (b - 48)
unfolding decimal_value
value-more v [] b = refl
value-more v (c ∷ d) b = value-more (v * 10 + (c - 48)) d b

digit_value : (n : ℕ) → 48 + n - 48 ≡ n
digit_value n = omega arith

digit_ok : (n : ℕ) → n < 10 → every is_digit ((48 + n) ∷ []) ≡ true
unfolding every between
digit_ok n h = and-true (and-true (le-leb 48 (48 + n) (omega arith)) (le-leb (48 + n) 57 (omega arith))) refl

numeral-more : (d : Text) (b : ℕ) → is_numeral d ≡ true → every is_digit (b ∷ []) ≡ true → is_numeral (d ++ b ∷ []) ≡ true
unfolding is_numeral
numeral-more [] b e k = k
numeral-more (c ∷ d) b e k = every-append-true is_digit (c ∷ d) (b ∷ []) e k

numeral-plain : (d : Text) → is_numeral d ≡ true → after_plus d ≡ d
unfolding is_numeral after_plus
numeral-plain [] e = refl
numeral-plain (b ∷ d) e = rw (ne_eqb b 43 (λ w. omega (arith, w, digit-within b (every-head is_digit b d e))))

module _ (f n : ℕ) (h : n < 10 ^ suc (suc f)) where
  tenth : n / 10 < 10 ^ suc f
  tenth = (div-lt_iff_lt-mul (lit< tt)).1 (rw pow-suc at h)

pub decimal-value : (f n : ℕ) → n < 10 ^ suc f → decimal_value 0 (decimal_up f n) ≡ n
unfolding decimal_up decimal_value
decimal-value zero n h = omega (arith, digit_value n)
decimal-value (suc f) n h =
    if-cases (λ (d : Text). decimal_value 0 d ≡ n) (ltb n 10)
    (λ e. omega (arith, digit_value n))
    (λ e. value-more 0 (decimal_up f (n / 10)) (48 + n % 10) ∙ ap₂ (λ (x y : ℕ). x * 10 + y) (decimal-value f (n / 10) (tenth f n h)) (digit_value (n % 10)) ∙ div-add-mod' n 10)

pub decimal-digits : (f n : ℕ) → n < 10 ^ suc f → is_numeral (decimal_up f n) ≡ true
unfolding decimal_up is_numeral
decimal-digits zero n h = digit_ok n (omega (arith, h))
decimal-digits (suc f) n h =
    if-cases (λ (d : Text). is_numeral d ≡ true) (ltb n 10)
    (λ e. digit_ok n (ltb-true n 10 e))
    (λ e. numeral-more (decimal_up f (n / 10)) (48 + n % 10) (decimal-digits f (n / 10) (tenth f n h)) (digit_ok (n % 10) (mod-lt n (lit< tt))))

-- "numbers are plain": what is written is read
pub decimal-plain : (w n : ℕ) → n < 2 ^ w → n < 10 ^ 20 → plain_number w (decimal n) ≡ parsed n
unfolding decimal plain_number plain_below numeral
decimal-plain w n h k = rw (numeral-plain (decimal_up 19 n) (decimal-digits 19 n k), decimal-digits 19 n k, decimal-value 19 n k) (below-within (2 ^ w) n h)

pub decimal-number : (w n : ℕ) → n < 2 ^ w → n < 10 ^ 20 → number w (decimal n) ≡ parsed n
decimal-number w n h k = number-kept w (decimal n) n (decimal-plain w n h k)
