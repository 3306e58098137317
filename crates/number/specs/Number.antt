-- Numbers written as texts. Paper 01, "Numbers: optional `+`, then one or more digits, value within u32 or u64.", which is 000, `parse_u32` and `parse_u64`;
-- order 2, "XML Schema Part 2 collapses white space around these types and admits `-0`; .. The number leaf takes both from now on, a minus only before zeros".
--     Parsed        what a number's text gives: a value, or the paper's number of the refusal
--     after_plus     the text behind an optional plus sign
--     is_numeral     one or more digits
--     decimal_value v d  the value of the digits d behind the value v
--     below limit v    the value v, where it is below the limit
--     numeral limit d  what the digits d give below the limit
--     plain_below limit s   what paper 01 alone gives for the text s below the limit
--     plain_number w s  the same at the width w: 32 for u32, 64 for u64
--     is_minus_zeros  a minus, then one or more zeros and nothing else
--     number_below limit s  what the text s gives below the limit, white space at both ends aside
--     number w s    what the text s gives at the width w
--     SpellsBelow limit core v  the core is a text that paper 01 takes for v, or minus zeros, and v is 0; Spells w core v: at the width w
use Rattle.std.specs.Prelude.{ℕ, ◌+◌, ◌-◌, ◌*◌, ◌^◌, ◌≡◌, ◌⊎◌, [], ◌∷◌, Bool, true, false, ◌&&◌, eqb, ltb, if◌then◌else◌}
use Prim.Native.Char.{code}
use Rattle.text.specs.Text.{Text, every, is_digit}
use Rattle.text.specs.Trim.{trimmed}

pub data Parsed : Type 0 where
  parsed : ℕ → Parsed
  refused : ℕ → Parsed

unfoldable pub after_plus : Text → Text
after_plus [] = []
after_plus (b ∷ s) = if eqb b (code "+") then s else b ∷ s

unfoldable pub is_numeral : Text → Bool
is_numeral [] = false
is_numeral (b ∷ s) = every is_digit (b ∷ s)

unfoldable pub decimal_value : ℕ → Text → ℕ
decimal_value v [] = v
decimal_value v (b ∷ d) = decimal_value (v * 10 + (b - code "0")) d

unfoldable pub below : ℕ → ℕ → Parsed
below limit v = if ltb v limit then parsed v else refused 10

-- 10 is `InvalidAttributeValue`
unfoldable pub numeral : ℕ → Text → Parsed
numeral limit d = if is_numeral d then below limit (decimal_value 0 d) else refused 10

unfoldable pub plain_below : ℕ → Text → Parsed
plain_below limit s = numeral limit (after_plus s)

unfoldable pub plain_number : ℕ → Text → Parsed
plain_number w s = plain_below (2 ^ w) s

abbrev pub is_zero : ℕ → Bool
is_zero b = eqb b (code "0")

unfoldable pub is_minus_zeros : Text → Bool
is_minus_zeros [] = false
is_minus_zeros (b ∷ []) = false
is_minus_zeros (b ∷ c ∷ s) = eqb b (code "-") && every is_zero (c ∷ s)

-- one rule over the limit, so over the width
unfoldable pub number_below : ℕ → Text → Parsed
number_below limit s = if is_minus_zeros (trimmed s) then parsed 0 else plain_below limit (trimmed s)

unfoldable pub number : ℕ → Text → Parsed
number w s = number_below (2 ^ w) s

abbrev pub SpellsBelow : ℕ → Text → ℕ → Type 0
SpellsBelow limit core v = (plain_below limit core ≡ parsed v) ⊎ ((is_minus_zeros core ≡ true) × (v ≡ 0))

abbrev pub Spells : ℕ → Text → ℕ → Type 0
Spells w core v = (plain_number w core ≡ parsed v) ⊎ ((is_minus_zeros core ≡ true) × (v ≡ 0))
