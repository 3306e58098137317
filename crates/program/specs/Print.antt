-- A sheet as it is printed. Paper 01: the used rows, a line each, then the used names and a newline.
--     gap at             what stands behind the number at a place of its row: a space, or a newline behind the last
--     numbers_text at s  the numbers of a row, the first of them at that place
--     printed_rows n s      the first n rows, of ten numbers each but for the last
--     printed_names n s     the first n names, or none where there are fewer
--     names_text n s     these and a newline
--     sheet_text x       a sheet: as many rows and names as its first row says
use Rattle.std.specs.Prelude.{ℕ, zero, suc, List, [], ◌∷◌, ◌++◌, codes, eqb, leb, length, take, drop, get_or, if◌then◌else◌}
use Rattle.std.specs.Fmt.{decimal}
use Rattle.text.specs.Text.{Text}
use Rattle.sheet.specs.Rows.{Sheet}

unfoldable pub gap : ℕ → Text
gap at = if eqb at 9 then codes "\n" else codes " "

unfoldable pub numbers_text : ℕ → List ℕ → Text
numbers_text at [] = []
numbers_text at (number ∷ row) = decimal number ++ gap at ++ numbers_text (suc at) row

unfoldable pub printed_rows : ℕ → List ℕ → Text
printed_rows zero rows = []
printed_rows (suc used) rows = numbers_text 0 (take 10 rows) ++ printed_rows used (drop 10 rows)

unfoldable pub printed_names : ℕ → Text → Text
printed_names used names = if leb used (length names) then take used names else []

unfoldable pub names_text : ℕ → Text → Text
names_text used names = printed_names used names ++ codes "\n"

unfoldable pub sheet_text : Sheet → Text
sheet_text x = printed_rows (get_or x.rows 1 0) x.rows ++ names_text (get_or x.rows 2 0) x.names
