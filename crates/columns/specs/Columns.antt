-- Rows of ten numbers by column. Order 10: "Turn a graph's rows into ten columns, one after the other; each number below the first in its column becomes
-- its difference from the number above, modulo 4294967296. The inverse restores the rows."
--     minus, plus   difference and sum modulo 4294967296
--     up_to n f      f 0, f 1, .. f (n - 1)
--     height        how many rows a length has
--     in_row         the number of row r and column c in rows
--     in_column      the number of column c and row r in columns
--     changed       what stands for the number of row r in its column c
--     column_at, columns_of    the columns: number k is of column k / height and row k % height
--     restored      the number of row r and column c, by its column's running sum
--     row_number_at, rows_of_columns  the rows: number k is of row k / 10 and column k % 10
use Rattle.std.specs.Prelude.{ℕ, zero, suc, ◌+◌, ◌-◌, ◌*◌, ◌/◌, ◌%◌, List, [], ◌∷◌, ◌++◌, length, slice_index}
use Rattle.sheet.specs.Limits.{row_numbers}

abbrev pub modulus : ℕ
modulus = 4294967296

unfoldable pub minus : ℕ → ℕ → ℕ
minus a b = (a + (modulus - b)) % modulus

unfoldable pub plus : ℕ → ℕ → ℕ
plus a b = (a + b) % modulus

unfoldable pub up_to : ℕ → (ℕ → ℕ) → List ℕ
up_to zero f = []
up_to (suc n) f = up_to n f ++ (f n ∷ [])

abbrev pub height : List ℕ → ℕ
height xs = length xs / row_numbers

abbrev pub in_row : List ℕ → ℕ → ℕ → ℕ
in_row rows r c = slice_index rows (row_numbers * r + c)

abbrev pub in_column : List ℕ → ℕ → ℕ → ℕ
in_column columns c r = slice_index columns (c * height columns + r)

-- "each number below the first in its column becomes its difference from the number above"
unfoldable pub changed : List ℕ → ℕ → ℕ → ℕ
changed rows c zero = in_row rows 0 c
changed rows c (suc r) = minus (in_row rows (suc r) c) (in_row rows r c)

unfoldable pub column_at : List ℕ → ℕ → ℕ
column_at rows k = changed rows (k / height rows) (k % height rows)

-- "ten columns, one after the other"
unfoldable pub columns_of : List ℕ → List ℕ
columns_of rows = up_to (length rows) (column_at rows)

unfoldable pub restored : List ℕ → ℕ → ℕ → ℕ
restored columns c zero = in_column columns c 0
restored columns c (suc r) = plus (restored columns c r) (in_column columns c (suc r))

unfoldable pub row_number_at : List ℕ → ℕ → ℕ
row_number_at columns k = restored columns (k % row_numbers) (k / row_numbers)

-- "The inverse restores the rows."
unfoldable pub rows_of_columns : List ℕ → List ℕ
rows_of_columns columns = up_to (length columns) (row_number_at columns)
