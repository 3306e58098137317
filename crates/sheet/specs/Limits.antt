-- The limits of paper 01, in the order of its sections.
use Rattle.std.specs.Prelude.{ℕ}

-- "Tape": "Text at most 65,536 bytes"
abbrev pub text_limit : ℕ
text_limit = 65536

-- "marks at most 16,384 numbers"
abbrev pub marks_limit : ℕ
marks_limit = 16384

-- "attributes at most 32"
abbrev pub attributes_limit : ℕ
attributes_limit = 32

-- "Schema sheet": "events are at most 1,000,000"
abbrev pub events_limit : ℕ
events_limit = 1000000

-- "open tags at most 255"
abbrev pub open_tags_limit : ℕ
open_tags_limit = 255

-- "Returned numbers": "a rows length not a multiple of 10, below 20 or above 40,960"
abbrev pub row_numbers : ℕ
row_numbers = 10

abbrev pub least_rows : ℕ
least_rows = 20

abbrev pub rows_limit : ℕ
rows_limit = 40960

-- "names above 65,536"
abbrev pub names_limit : ℕ
names_limit = 65536

-- order 13: "an ASCII pattern of up to 1,024 bytes"
abbrev pub pattern_limit : ℕ
pattern_limit = 1024

-- "more than 32 bytes `(`"
abbrev pub pattern_opens_limit : ℕ
pattern_opens_limit = 32
