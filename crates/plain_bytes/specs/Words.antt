-- A word of bytes, and what the functions compute of one. A unit u is 1 where x is one byte, and `ones` where x is a word of eight: the same
-- definition says what becomes of a word and of each of its bytes.
use Rattle.std.specs.Prelude.{ℕ, zero, suc, ◌+◌, ◌*◌, ◌<◌, ◌≡◌, List, get_or}
use Rattle.std.specs.Int.Bits.{bit_and, bit_or, bit_xor}

-- n bytes as one number, the first lowest
unfoldable pub word_of_bytes : ℕ → (ℕ → ℕ) → ℕ
word_of_bytes zero f = 0
word_of_bytes (suc n) f = word_of_bytes n (λ k. f (suc k)) * 256 + f 0

-- the bytes of a text from a place on, 0 past its end
abbrev pub bytes_at : List ℕ → ℕ → ℕ → ℕ
bytes_at s at k = get_or s (at + k) 0

-- a number is the word of the eight bytes from a place on, and what stands there are bytes
pub record WordAt (s : List ℕ) (at r : ℕ) : Type 0 where
  pub word : r ≡ word_of_bytes 8 (bytes_at s at)
  pub bytes : (k : ℕ) → bytes_at s at k < 256

-- the word of eight bytes 1
abbrev pub ones : ℕ
ones = 72340172838076673

-- bit 7 is set where the byte, below 128, is not c
unfoldable pub others : ℕ → ℕ → ℕ → ℕ
others c u x = bit_xor x (c * u) + 127 * u

-- bit 7 is set where the byte, below 128, is at least 32, or 9 or 10
unfoldable pub plains : ℕ → ℕ → ℕ
plains u x = bit_or (x + 96 * u) (bit_xor (x + 119 * u) (x + 117 * u))

-- bit 7 alone, set where that of x is not
unfoldable pub stops : ℕ → ℕ → ℕ
stops u x = bit_xor (bit_and x (128 * u)) (128 * u)

-- bit 7 is set where the byte, below 128, is none of a text's run
unfoldable pub text_stops : ℕ → ℕ → ℕ
text_stops u x = stops u (bit_and (bit_and (bit_and (others 60 u x) (others 38 u x)) (others 93 u x)) (plains u x))

-- the same of a value's run: the byte is below 40, or `<`
unfoldable pub value_stops : ℕ → ℕ → ℕ
value_stops u x = stops u (bit_and (x + 88 * u) (others 60 u x))

-- the same of a comment's run
unfoldable pub comment_stops : ℕ → ℕ → ℕ
comment_stops u x = stops u (bit_and (others 45 u x) (plains u x))

-- the same of a section's
unfoldable pub section_stops : ℕ → ℕ → ℕ
section_stops u x = stops u (bit_and (others 93 u x) (plains u x))

-- not 0 where the byte is not c
unfoldable pub one_stops : ℕ → ℕ → ℕ → ℕ
one_stops c u x = bit_xor x (c * u)
