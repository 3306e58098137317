-- The lines of a word list.
--     line_length    how many bytes stand before the first newline byte, or the end
use Rattle.std.specs.Prelude.{ℕ, [], length, get_or}
use Rattle.text.specs.Text.{Text}
use Rattle.ir_types.specs.Label.{words_of}

unfoldable pub line_length : Text → ℕ
line_length s = length (get_or (words_of s) 0 [])
