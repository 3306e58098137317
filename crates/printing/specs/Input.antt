-- The input of the printing program. Paper 01: "little-endian u32: text length, marks count; then text, marks. .. Bytes after these are ignored. If either
-- length read is too long: `read 1 0`; otherwise, with too few bytes or no whole header: `short`."
--     number_at i s    the number of the four bytes of s from i on, the first of them the lowest
--     too_long       a length that was read is too long; a length is read where its four bytes are there
--     input_of       what the input is: TooLong, Short, or Tape with the lengths of its text and marks
use Rattle.std.specs.Prelude.{ℕ, ◌+◌, ◌*◌, List, Bool, ◌&&◌, ◌||◌, leb, ltb, length, get_or, if◌then◌else◌}
use Rattle.printing.specs.declared.Input.{Input}

unfoldable pub number_at : ℕ → List ℕ → ℕ
number_at i s = get_or s i 0 + 256 * get_or s (i + 1) 0 + 65536 * get_or s (i + 2) 0 + 16777216 * get_or s (i + 3) 0

unfoldable pub too_long : List ℕ → Bool
too_long s = (leb 4 (length s) && ltb 65536 (number_at 0 s)) || (leb 8 (length s) && ltb 16384 (number_at 4 s))

unfoldable pub input_of : List ℕ → Input
input_of s =
    if too_long s
    then Input.TooLong
    else if leb 8 (length s) && leb (8 + number_at 0 s + 4 * number_at 4 s) (length s)
    then Input.Tape (number_at 0 s) (number_at 4 s)
    else Input.Short
