-- What a run of bytes is, and what passing over one means.
--     is_text_run, is_value_run, is_comment_run, is_section_run
--              the bytes that text, an attribute's value, a comment and a section hold with nothing to look at
--     is_one     one byte alone
--     Skips    every byte from one place of a text up to another is inside the text and of the class
use Rattle.std.specs.Prelude.{ℕ, ◌≤◌, ◌<◌, ◌≡◌, List, Bool, true, ◌&&◌, ◌||◌, not, eqb, ltb, leb, length, get_or}
use Rattle.text.specs.Text.{between}

-- a character of one byte that is no carriage return: from the space on, a tab or a line feed
abbrev pub is_one_byte_char : ℕ → Bool
is_one_byte_char b = ltb b 128 && (leb 32 b || between 9 10 b)

-- a plain byte that is none of `<`, `&` and `]`
unfoldable pub is_text_run : ℕ → Bool
is_text_run b = is_one_byte_char b && not (eqb b 60) && not (eqb b 38) && not (eqb b 93)

-- a byte behind the quotes and `&`, and not `<`
unfoldable pub is_value_run : ℕ → Bool
is_value_run b = between 40 127 b && not (eqb b 60)

-- a plain byte that is no `-`
unfoldable pub is_comment_run : ℕ → Bool
is_comment_run b = is_one_byte_char b && not (eqb b 45)

-- a plain byte that is no `]`
unfoldable pub is_section_run : ℕ → Bool
is_section_run b = is_one_byte_char b && not (eqb b 93)

-- the byte c
unfoldable pub is_one : ℕ → ℕ → Bool
is_one c b = eqb b c

-- from the place `at` up to the place r of s there are only bytes of s that pass the test
pub record Skips (p : ℕ → Bool) (s : List ℕ) (at r : ℕ) : Type 0 where
  pub from : at ≤ r
  pub all : (k : ℕ) → at ≤ k → k < r → (k < length s) × (p (get_or s k 0) ≡ true)
