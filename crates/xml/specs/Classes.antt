-- The classes of characters of XML 1.0 (Fifth Edition), by code point, up to U+017F, where the characters of a text end. [2] Char is whole, since a character
-- reference names any code point.
--     is_char        [2] Char
--     is_name_start   [4] NameStartChar
--     is_name        [4a] NameChar
--     is_letter      [A-Za-z]; is_encoding: the characters of [81] EncName behind its first
--     point_of       the code point of a lead byte and its tail in UTF-8
--     is_byte_of, is_pair_of    the byte, or the lead with its tail, is a character of a class
--     begins         the bytes left begin with a character of a class
use Rattle.std.specs.Prelude.{ℕ, ◌+◌, ◌-◌, ◌*◌, [], ◌∷◌, Bool, false, ◌&&◌, ◌||◌, eqb, ltb}
use Prim.Native.Char.{code}
use Rattle.text.specs.Text.{Text, between, is_upper, is_lower, is_digit, first, is_pair}

-- [2] Char ::= #x9 | #xA | #xD | [#x20-#xD7FF] | [#xE000-#xFFFD] | [#x10000-#x10FFFF]
unfoldable pub is_char : ℕ → Bool
is_char c = eqb c 9 || eqb c 10 || eqb c 13 || between 32 55295 c || between 57344 65533 c || between 65536 1114111 c

unfoldable pub is_letter : ℕ → Bool
is_letter b = is_upper b || is_lower b

-- [4] NameStartChar ::= ":" | [A-Z] | "_" | [a-z] | [#xC0-#xD6] | [#xD8-#xF6] | [#xF8-#x2FF] | ..
unfoldable pub is_name_start : ℕ → Bool
is_name_start c = eqb c (code ":") || is_letter c || eqb c (code "_") || between 192 214 c || between 216 246 c || between 248 383 c

-- [4a] NameChar ::= NameStartChar | "-" | "." | [0-9] | #xB7 | ..
unfoldable pub is_name : ℕ → Bool
is_name c = is_name_start c || eqb c (code "-") || eqb c (code ".") || is_digit c || eqb c 183

-- [81] EncName ::= [A-Za-z] ([A-Za-z0-9._] | '-')*
unfoldable pub is_encoding : ℕ → Bool
is_encoding b = is_letter b || is_digit b || eqb b (code ".") || eqb b (code "_") || eqb b (code "-")

-- RFC 3629: 110xxxxx 10xxxxxx
unfoldable pub point_of : ℕ → ℕ → ℕ
point_of lead tail = (lead - 192) * 64 + (tail - 128)

unfoldable pub is_byte_of : (ℕ → Bool) → ℕ → Bool
is_byte_of p b = ltb b 128 && p b

unfoldable pub is_pair_of : (ℕ → Bool) → ℕ → ℕ → Bool
is_pair_of p lead tail = is_pair lead tail && p (point_of lead tail)

unfoldable pub begins : (ℕ → Bool) → Text → Bool
begins p [] = false
begins p (b ∷ s) = is_byte_of p b || is_pair_of p b (first s)
