-- The call of order 13: what a pattern's number says.
--     is_aside_pair   the bytes `\p`, `\P` or `-[`; aside_pairs: they stand somewhere; count_byte: how many bytes are b
--     is_aside       a pattern has a form that is not judged
--     Verdict       the number of a pattern; PatternIs: number and place of the call
use Rattle.std.specs.Prelude.{ℕ, ◌+◌, ◌≤◌, ◌<◌, ◌≡◌, [], ◌∷◌, Bool, true, false, ◌&&◌, ◌||◌, eqb, ltb, length, if◌then◌else◌}
use Prim.Native.Char.{code}
use Rattle.text.specs.Text.{Text, is_plain}
use Rattle.sheet.specs.Limits.{pattern_limit, pattern_opens_limit}
use Rattle.sheet.specs.Returned.{accepted, bad_length, not_ascii, no_pattern, pattern_aside}
use Rattle.pattern.specs.Grammar.{Derives, reg_exp}

unfoldable pub is_aside_pair : ℕ → ℕ → Bool
is_aside_pair b next = (eqb b (code "\\") && (eqb next (code "p") || eqb next (code "P"))) || (eqb b (code "-") && eqb next (code "["))

-- behind the byte `last`
unfoldable pub aside_from : ℕ → Text → Bool
aside_from last [] = false
aside_from last (b ∷ s) = is_aside_pair last b || aside_from b s

unfoldable pub aside_pairs : Text → Bool
aside_pairs s = aside_from 0 s

unfoldable pub count_byte : ℕ → Text → ℕ
count_byte c [] = 0
count_byte c (b ∷ s) = (if eqb b c then 1 else 0) + count_byte c s

-- "the bytes `\p`, `\P` or `-[` anywhere or more than 32 bytes `(`, escaped ones too"
unfoldable pub is_aside : Text → Bool
is_aside s = aside_pairs s || ltb pattern_opens_limit (count_byte (code "(") s)

-- "Accepted means a derivation exists by the productions alone, refused that none does, outside the forms we leave aside"; "order 1 for length, 5 for a
-- byte above 127, 25, 24"
pub data Verdict (s : Text) : ℕ → Type 0 where
  too_long : pattern_limit < length s → Verdict s bad_length
  high_byte : length s ≤ pattern_limit → is_plain s ≡ false → Verdict s not_ascii
  left_aside : length s ≤ pattern_limit → is_plain s ≡ true → is_aside s ≡ true → Verdict s pattern_aside
  underivable : length s ≤ pattern_limit → is_plain s ≡ true → is_aside s ≡ false → (Derives reg_exp s → ⊥) → Verdict s no_pattern
  derived : length s ≤ pattern_limit → is_plain s ≡ true → is_aside s ≡ false → Derives reg_exp s → Verdict s accepted

-- the call: its number, and 0 as the place
pub record PatternIs (s : Text) (number place : ℕ) : Type 0 where
  pub verdict : Verdict s number
  pub nowhere : place ≡ 0
