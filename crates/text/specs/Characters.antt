-- The characters of a text in UTF-8 (RFC 3629) that a sheet or a graph may hold: order 12, "Accept UTF-8 for code points U+0080 to U+017F". A byte from 128 on that is no part of such a
-- character counts for itself.
--     is_lead       the first byte of a character of two: U+0080 to U+017F, and in graphs U+02BC, U+0307 and U+039C
--     characters    a byte, or a lead byte with the tail byte behind it
--     is_byte       the character is the byte
use Rattle.std.specs.Prelude.{ℕ, List, [], ◌∷◌, Bool, false, ◌&&◌, ◌||◌, eqb, if◌then◌else◌}
use Rattle.text.specs.Text.{Text, between, is_tail}

unfoldable pub is_lead : ℕ → Bool
is_lead b = between 194 197 b || eqb b 202 || eqb b 204 || eqb b 206

unfoldable pub characters : Text → List Text
characters [] = []
characters (b ∷ []) = (b ∷ []) ∷ []
characters (b ∷ t ∷ s) =
    if is_lead b && is_tail t
    then (b ∷ t ∷ []) ∷ characters s
    else (b ∷ []) ∷ characters (t ∷ s)

unfoldable pub is_byte : ℕ → Text → Bool
is_byte b [] = false
is_byte b (c ∷ []) = eqb c b
is_byte b (c ∷ t ∷ s) = false
