-- The conversions byte by byte, which those of specs/Names.antt are on texts of bytes below 128.
--     byte_capital rest    a segment: the first byte in its upper form, each behind it under `rest`
--     byte_normalize, byte_pascal, byte_snake    the three conversions
--     byte_starts    an underscore stands before c, between the bytes prev and next; the byte 0 stands for none
--     byte_snake_from    the snake form of s where prev is the byte before it
use Rattle.std.specs.Prelude.{ℕ, [], ◌∷◌, map, Bool, ◌&&◌, ◌||◌, if◌then◌else◌}
use Prim.Native.Char.{code}
use Rattle.text.specs.Text.{Text, is_upper, is_lower, upper_byte, lower_byte, contains, split, join, first}

unfoldable pub byte_capital : (ℕ → ℕ) → Text → Text
byte_capital rest [] = []
byte_capital rest (b ∷ s) = upper_byte b ∷ map rest s

unfoldable pub byte_normalize : Text → Text
byte_normalize name =
    if contains (code "_") name then join (map (byte_capital (λ b. b)) (split (code "_") name)) else name

unfoldable pub byte_pascal : Text → Text
byte_pascal value = join (map (byte_capital lower_byte) (split (code "-") value))

unfoldable pub byte_starts : ℕ → ℕ → ℕ → Bool
byte_starts prev c next = is_upper c && (is_lower prev || (is_upper prev && is_lower next))

unfoldable pub byte_snake_from : ℕ → Text → Text
byte_snake_from prev [] = []
byte_snake_from prev (c ∷ s) =
    if byte_starts prev c (first s)
    then code "_" ∷ lower_byte c ∷ byte_snake_from c s
    else lower_byte c ∷ byte_snake_from c s

unfoldable pub byte_snake : Text → Text
byte_snake name = byte_snake_from 0 name
