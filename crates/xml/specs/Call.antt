-- The call of order 1: the tape of a schema text, by the grammar (Grammar.antt). A constructor for each number, in the order of the refusals: "order 1, 5 for
-- any byte above 127, 18, 17, 19".
use Rattle.std.specs.Prelude.{ℕ, ◌≤◌, ◌<◌, ◌≡◌, List, [], true, false, length}
use Rattle.text.specs.Text.{Text, is_text}
use Rattle.sheet.specs.Rows.{filled}
use Rattle.sheet.specs.Lengths.{tape_lengths}
use Rattle.sheet.specs.Returned.{accepted, bad_length, not_ascii, malformed, doctype, short_marks}
use Rattle.xml.specs.Tape.{TapeEvent, tape_marks}
use Rattle.xml.specs.Grammar.{Derived, BegunByDoctype}

-- the lengths are right, and the bytes are a text: below 128, or characters from U+0080 to U+017F in UTF-8
abbrev pub Readable : Text → List ℕ → Type 0
Readable text before = (tape_lengths (length text) (length before) ≡ true) × (is_text text ≡ true)

-- number, place and marks afterwards. "marks zero from 5 on"; "accepted, place is the marks used and the rest are zero"
pub data TapeIs (text : Text) (before : List ℕ) : ℕ → ℕ → List ℕ → Type 0 where
  is_too_long : tape_lengths (length text) (length before) ≡ false → TapeIs text before bad_length 0 before
  is_high : tape_lengths (length text) (length before) ≡ true → is_text text ≡ false → TapeIs text before not_ascii 0 (filled (length before) [])
  is_begun : Readable text before → BegunByDoctype text → TapeIs text before doctype 0 (filled (length before) [])
  is_malformed : Readable text before → (BegunByDoctype text → ⊥) → ((es : List TapeEvent) → Derived text es → ⊥) → TapeIs text before malformed 0 (filled (length before) [])
  is_short : {es : List TapeEvent} → Readable text before → Derived text es → length before < length (tape_marks es) → TapeIs text before short_marks 0 (filled (length before) [])
  is_accepted : {es : List TapeEvent} → Readable text before → Derived text es → length (tape_marks es) ≤ length before
      → TapeIs text before accepted (length (tape_marks es)) (filled (length before) (tape_marks es))
