-- What the exported calls return and store, as numbers: paper 01, "Returned numbers" and the label call.
--     version       the version of the archive: 10,000 for the first number, 100 for the second, 1 for the third
--     stored_number, stored_value    a number leaf's number, 0 or 10, and the value lent afterwards; Exported: both
--     stored_count       a writer's answer as a number: the bytes, or the largest u64, which is no length of a slice
--     LabelStored   a label's number and part: the buffer, 0 the names and 1 the word list, the start there and the length
use Rattle.std.specs.Prelude.{ℕ, Option, Some, None, ◌^◌, ◌-◌, ◌≡◌, length}
use Rattle.number.specs.Number.{Parsed, parsed, refused}
use Rattle.sheet.specs.Rows.{bit}
use Rattle.ir_types.specs.Label.{Labelled}

-- 0.5.0
abbrev pub version : ℕ
version = 500

abbrev pub stored_number : Parsed → ℕ
stored_number (parsed v) = 0
stored_number (refused r) = r

abbrev pub stored_value : Parsed → ℕ → ℕ
stored_value (parsed v) before = v
stored_value (refused r) before = before

pub record Exported (p : Parsed) (before answer after : ℕ) : Type 0 where
  pub number : answer ≡ stored_number p
  pub value : after ≡ stored_value p before

abbrev pub stored_count : Option ℕ → ℕ
stored_count (Some n) = n
stored_count None = 2 ^ 64 - 1

pub record LabelStored (l : Labelled) (answer buffer start size : ℕ) : Type 0 where
  pub number : answer ≡ l.number
  pub in_words : buffer ≡ bit l.in_words
  pub starts : start ≡ l.at
  pub long : size ≡ length l.text
