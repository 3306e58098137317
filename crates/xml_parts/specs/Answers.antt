-- What the code's enums say in the terms of the definitions.
--     class_of       the class of a `Class`
--     class_table    the classes of each byte, the bit of a class at its place; has_bit: flags have a bit
--     moved         where a step ends, with the bytes left there
--     stopped        what a value's last byte, or the end of a text without one, says of where the value ends; held: of whether it may stand whole between quotes
--     point_by       the code point of two bytes
--     start_width    how many bytes the first character of a name has; matched: a name that is the name at another place
--     body_of        the step of a `Body`
--     Before        bytes that may be passed over before a word
--     GoesAlike     bytes with which the names at two places begin alike; SameUpTo: where two names have been held against each other, as far as they are bytes below 128
--     StandsAt      bytes that stand at two places, with no more of a name behind the second
use Rattle.std.specs.Prelude.{ℕ, ◌+◌, ◌-◌, ◌≤◌, ◌<◌, ◌≡◌, List, [], ◌∷◌, Bool, true, false, Option, Some, None, length, get_or, take, drop, eqb, ltb, leb, if◌then◌else◌}
use Rattle.std.specs.Int.{bit_at}
use Rattle.text.specs.Text.{Text, is_digit, is_pair, first, same}
use Rattle.text.specs.Trim.{is_white_space}
use Rattle.xml.specs.Classes.{is_char, is_letter, is_name_start, is_name, is_encoding, point_of, is_byte_of, begins}
use Rattle.xml.specs.Steps.{Step, bad, behind, many, name, leading_name}
use Rattle.xml.specs.Values.{is_in_text, is_in_value}
use Rattle.xml.specs.Prolog.{version_number, encoding_name, yes_or_no}
use Rattle.xml_parts.specs.declared.classes.Class.{Class}
use Rattle.xml_parts.specs.declared.prolog.Body.{Body}

abbrev pub class_of : Class → ℕ → Bool
class_of Class.Space = is_white_space
class_of Class.NameStart = is_byte_of is_name_start
class_of Class.Name = is_byte_of is_name
class_of Class.Digit = is_digit
class_of Class.Letter = is_letter
class_of Class.Encoding = is_encoding
class_of Class.InText = is_in_text
class_of Class.InValue = is_in_value

-- the classes of each byte, a bit for each class
unfoldable pub class_table : List ℕ
class_table =
    0 ∷ 0 ∷ 0 ∷ 0 ∷ 0 ∷ 0 ∷ 0 ∷ 0 ∷ 0 ∷ 193 ∷ 193 ∷ 0 ∷ 0 ∷ 193 ∷ 0 ∷ 0 ∷ 0 ∷ 0 ∷ 0 ∷ 0 ∷ 0 ∷ 0 ∷ 0 ∷ 0 ∷ 0 ∷ 0 ∷ 0 ∷ 0 ∷ 0 ∷ 0 ∷ 0 ∷ 0 ∷
    193 ∷ 192 ∷ 64 ∷ 192 ∷ 192 ∷ 192 ∷ 0 ∷ 64 ∷ 192 ∷ 192 ∷ 192 ∷ 192 ∷ 192 ∷ 228 ∷ 228 ∷ 192 ∷ 236 ∷ 236 ∷ 236 ∷ 236 ∷ 236 ∷ 236 ∷ 236 ∷ 236 ∷ 236 ∷ 236 ∷ 198 ∷ 192 ∷ 0 ∷ 192 ∷ 192 ∷ 192 ∷
    192 ∷ 246 ∷ 246 ∷ 246 ∷ 246 ∷ 246 ∷ 246 ∷ 246 ∷ 246 ∷ 246 ∷ 246 ∷ 246 ∷ 246 ∷ 246 ∷ 246 ∷ 246 ∷ 246 ∷ 246 ∷ 246 ∷ 246 ∷ 246 ∷ 246 ∷ 246 ∷ 246 ∷ 246 ∷ 246 ∷ 246 ∷ 192 ∷ 192 ∷ 128 ∷ 192 ∷ 230 ∷
    192 ∷ 246 ∷ 246 ∷ 246 ∷ 246 ∷ 246 ∷ 246 ∷ 246 ∷ 246 ∷ 246 ∷ 246 ∷ 246 ∷ 246 ∷ 246 ∷ 246 ∷ 246 ∷ 246 ∷ 246 ∷ 246 ∷ 246 ∷ 246 ∷ 246 ∷ 246 ∷ 246 ∷ 246 ∷ 246 ∷ 246 ∷ 192 ∷ 192 ∷ 192 ∷ 192 ∷ 192 ∷
    192 ∷ 192 ∷ 192 ∷ 192 ∷ 192 ∷ 192 ∷ 192 ∷ 192 ∷ 192 ∷ 192 ∷ 192 ∷ 192 ∷ 192 ∷ 192 ∷ 192 ∷ 192 ∷ 192 ∷ 192 ∷ 192 ∷ 192 ∷ 192 ∷ 192 ∷ 192 ∷ 192 ∷ 192 ∷ 192 ∷ 192 ∷ 192 ∷ 192 ∷ 192 ∷ 192 ∷ 192 ∷
    192 ∷ 192 ∷ 192 ∷ 192 ∷ 192 ∷ 192 ∷ 192 ∷ 192 ∷ 192 ∷ 192 ∷ 192 ∷ 192 ∷ 192 ∷ 192 ∷ 192 ∷ 192 ∷ 192 ∷ 192 ∷ 192 ∷ 192 ∷ 192 ∷ 192 ∷ 192 ∷ 192 ∷ 192 ∷ 192 ∷ 192 ∷ 192 ∷ 192 ∷ 192 ∷ 192 ∷ 192 ∷
    192 ∷ 192 ∷ 192 ∷ 192 ∷ 192 ∷ 192 ∷ 192 ∷ 192 ∷ 192 ∷ 192 ∷ 192 ∷ 192 ∷ 192 ∷ 192 ∷ 192 ∷ 192 ∷ 192 ∷ 192 ∷ 192 ∷ 192 ∷ 192 ∷ 192 ∷ 192 ∷ 192 ∷ 192 ∷ 192 ∷ 192 ∷ 192 ∷ 192 ∷ 192 ∷ 192 ∷ 192 ∷
    192 ∷ 192 ∷ 192 ∷ 192 ∷ 192 ∷ 192 ∷ 192 ∷ 192 ∷ 192 ∷ 192 ∷ 192 ∷ 192 ∷ 192 ∷ 192 ∷ 192 ∷ 192 ∷ 192 ∷ 192 ∷ 192 ∷ 192 ∷ 192 ∷ 192 ∷ 192 ∷ 192 ∷ 192 ∷ 192 ∷ 192 ∷ 192 ∷ 192 ∷ 192 ∷ 192 ∷ 192 ∷ []

unfoldable pub has_bit : ℕ → ℕ → Bool
has_bit flags k = eqb (bit_at flags k) 1

abbrev pub moved : Text → Option ℕ → Step
moved text (Some e) = behind e (drop e text)
moved text None = bad

abbrev pub stopped : Text → Option ℕ → Step
stopped text (Some e) = if ltb e (length text) then behind (e + 1) (drop (e + 1) text) else bad
stopped text None = bad

abbrev pub held : Text → Option ℕ → Bool
held text (Some e) = leb (length text) e
held text None = false

-- the code point of a lead byte and its tail, 0 where they are no character
unfoldable pub point_by : ℕ → ℕ → ℕ
point_by lead tail = if is_pair lead tail then point_of lead tail else 0

-- how many bytes the character has that begins a name here, 0 where none does
unfoldable pub start_width : Text → ℕ
start_width s = if begins is_name_start s then (if is_byte_of is_name_start (first s) then 1 else 2) else 0

-- a name, where it is the name at another place
unfoldable pub matched : Text → ℕ → ℕ → Step
matched text at top = if same (leading_name (drop at text)) (leading_name (drop top text)) then name at (drop at text) else bad

abbrev pub body_of : Body → ℕ → Text → Step
body_of Body.Version = version_number
body_of Body.Encoding = encoding_name
body_of Body.Standalone = yes_or_no

-- bytes that may be passed over before a word: characters, none of which begins it
pub record Before (p : ℕ → Bool) (word : Text) : Type 0 where
  pub some : 0 < length word
  pub chars : (b : ℕ) → p b ≡ true → is_char b ≡ true
  pub others : (b : ℕ) → p b ≡ true → eqb b (get_or word 0 0) ≡ false

-- the names at two places have their first n bytes alike: they are the same where the rests behind those are, and the first goes on as its rest does
pub record GoesAlike (text : Text) (a b n : ℕ) : Type 0 where
  pub inside : (n ≤ length text - a) × (n ≤ length text - b)
  pub alike : same (leading_name (drop (a + n) text)) (leading_name (drop (b + n) text)) ≡ same (leading_name (drop a text)) (leading_name (drop b text))
  pub ends : n + length (leading_name (drop (a + n) text)) ≡ length (leading_name (drop a text))

-- the names at a and b are the same where those at i and j are, and the run of the first goes on at i: a byte that is no name's, or differs from the one at j
pub record SameUpTo (text : Text) (a b i j : ℕ) : Type 0 where
  pub same_names : same (leading_name (drop i text)) (leading_name (drop j text)) ≡ same (leading_name (drop a text)) (leading_name (drop b text))
  pub same-run : many (is_byte_of is_name) i (drop i text) ≡ many (is_byte_of is_name) a (drop a text)
  pub differ : is_byte_of is_name (get_or text i 0) ≡ true → get_or text i 0 ≡ get_or text j 0 → ⊥

-- the n bytes at one place stand at another one too, and no name goes on behind them there
pub record StandsAt (text : Text) (at n top : ℕ) : Type 0 where
  pub bytes : take n (drop at text) ≡ take n (drop top text)
  pub ends : begins is_name (drop (top + n) text) ≡ false
