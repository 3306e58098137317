-- Order 8: "numbers are plain".
--     decimal_up f n    the decimal digits of n, at most f + 1 of them; decimal: those of a number of 64 bits, with no sign and no leading zero
use Rattle.std.specs.Prelude.{ℕ, zero, suc, ◌+◌, ◌/◌, ◌%◌, [], ◌∷◌, ◌++◌, ltb, if◌then◌else◌}
use Rattle.text.specs.Text.{Text}

unfoldable pub decimal_up : ℕ → ℕ → Text
decimal_up zero n = (48 + n) ∷ []
decimal_up (suc f) n = if ltb n 10 then (48 + n) ∷ [] else decimal_up f (n / 10) ++ (48 + n % 10) ∷ []

unfoldable pub decimal : ℕ → Text
decimal n = decimal_up 19 n
