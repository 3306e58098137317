-- References, attribute values and character data: XML 1.0 (Fifth Edition), [66] to [68], [10] and [14].
--     is_number      digits to a base and a semicolon, whose number is a character
--     is_reference   the bytes left begin with a reference
--     value         [10] AttValue, quotes included
--     char_data      [14] CharData and [67] Reference, as many as stand there
--     is_in_text      a character that stands in text without a look at its neighbours; is_in_value: in a value
use Rattle.std.specs.Prelude.{ℕ, suc, ◌+◌, ◌*◌, [], ◌∷◌, Bool, false, not, ◌&&◌, ◌||◌, eqb, ltb, drop, if◌then◌else◌}
use Prim.Native.Char.{code}
use Rattle.text.specs.Text.{Text, bytes}
use Rattle.xml.specs.Grammar.{digit_of}
use Rattle.xml.specs.Classes.{is_char}
use Rattle.xml.specs.Steps.{Step, bad, behind, starts_with}

-- behind `&#` or `&#x`: "[0-9]+ ';'" or "[0-9a-fA-F]+ ';'". No digit at all gives 0, which is no character. "Legal Character": "Characters referred to
-- using character references MUST match the production for Char."
unfoldable pub is_number : ℕ → ℕ → Text → Bool
is_number base v [] = false
is_number base v (b ∷ s) =
    if eqb b (code ";") then is_char v else
    if ltb (digit_of b) base then is_number base (v * base + digit_of b) s else false

-- [68] EntityRef ::= '&' Name ';'. "Entity Declared": in a document without any DTD the name must be one of the five of 4.6.
unfoldable pub is_entity : Text → Bool
is_entity s =
    starts_with (bytes "&amp;") s || starts_with (bytes "&lt;") s || starts_with (bytes "&gt;") s || starts_with (bytes "&apos;") s || starts_with (bytes "&quot;") s

-- [67] Reference ::= EntityRef | CharRef; [66] CharRef ::= '&#' [0-9]+ ';' | '&#x' [0-9a-fA-F]+ ';'
unfoldable pub is_reference : Text → Bool
is_reference s =
    if starts_with (bytes "&#x") s then is_number 16 0 (drop 3 s) else
    if starts_with (bytes "&#") s then is_number 10 0 (drop 2 s) else is_entity s

-- the byte that the bytes left begin with may stand in a value or in text, but for the bytes that end them: a character, and where it is `&`, a
-- reference. The bytes of a reference behind its `&` are plain characters, so a scan goes on at the next byte.
unfoldable pub starts_character : Text → Bool
starts_character [] = false
starts_character (b ∷ s) = if eqb b (code "&") then is_reference (b ∷ s) else is_char b

-- "([^<&"] | Reference)* '"'", or with the other quote. "No < in Attribute Values".
unfoldable pub value_end : ℕ → ℕ → Text → Step
value_end quote at [] = bad
value_end quote at (b ∷ s) =
    if eqb b quote then behind (suc at) s else
    if eqb b (code "<") then bad else
    if starts_character (b ∷ s) then value_end quote (suc at) s else bad

unfoldable pub is_quote : ℕ → Bool
is_quote b = eqb b 34 || eqb b 39

-- [10] AttValue ::= '"' ([^<&"] | Reference)* '"' | "'" ([^<&'] | Reference)* "'"
unfoldable pub value : ℕ → Text → Step
value at [] = bad
value at (b ∷ s) = if is_quote b then value_end b (suc at) s else bad

-- [14] CharData ::= [^<&]* - ([^<&]* ']]>' [^<&]*), and references, up to the next `<` or the end
unfoldable pub char_data : ℕ → Text → Step
char_data at [] = behind at []
char_data at (b ∷ s) =
    if eqb b (code "<") then behind at (b ∷ s) else
    if not (starts_with (bytes "]]>") (b ∷ s)) && starts_character (b ∷ s) then char_data (suc at) s else bad

unfoldable pub is_in_text : ℕ → Bool
is_in_text b = is_char b && not (eqb b (code "<")) && not (eqb b (code "&")) && not (eqb b (code "]"))

unfoldable pub is_in_value : ℕ → Bool
is_in_value b = is_char b && not (eqb b (code "<")) && not (eqb b (code "&")) && not (is_quote b)
