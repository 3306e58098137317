-- Each turning undoes the other: a difference added to what it was taken from, or taken from what it was added to, gives the number back, column by column
-- from the first row down. Assumes nothing.
--     Small         the numbers of a buffer of u32
--     Tens          a length of whole rows
use Rattle.std.proofs.Common.{◌≡◌, ℕ, zero, suc, ◌+◌, ◌*◌, ◌/◌, ◌%◌, ◌<◌, List, length, get_or, ap, ◌∙◌, mod-lt, div-lt_iff_lt-mul, div-add-mod', arith, ext_get_or}
use Rattle.columns.specs.Columns.{modulus, minus, plus, height, in_row, in_column, changed, column_at, columns_of, restored, row_number_at, rows_of_columns}
use Rattle.columns.proofs.Laws.Places.{length-up_to, get_d-up_to, at-column, at_row, column_fits}

minus_plus : (x above : ℕ) → x < modulus → above < modulus → plus above (minus x above) ≡ x
unfolding minus plus
minus_plus x above hx ha = omega arith

plus-minus : (d above : ℕ) → d < modulus → above < modulus → minus (plus above d) above ≡ d
unfolding minus plus
plus-minus d above hd ha = omega arith

plus-small : (x above : ℕ) → plus x above < modulus
unfolding plus
plus-small x above = omega arith

abbrev Small : List ℕ → Type 0
Small xs = (k : ℕ) → get_or xs k 0 < modulus

abbrev Tens : List ℕ → Type 0
Tens xs = length xs ≡ 10 * height xs

columns-length : (rows : List ℕ) → length (columns_of rows) ≡ length rows
unfolding columns_of
columns-length rows = length-up_to (length rows) _

column-at : (rows : List ℕ) (c r : ℕ) → Tens rows → c < 10 → r < height rows → get_or (columns_of rows) (c * height rows + r) 0 ≡ changed rows c r
unfolding columns_of column_at
column-at rows c r t k l =
    get_d-up_to (length rows) _ (c * height rows + r) (omega (arith, column_fits c (height rows) k))
    ∙ rw (at-column (height rows) c r l, at_row (height rows) c r l)

restored-cell : (rows : List ℕ) (c r : ℕ) → Tens rows → Small rows → c < 10 → r < height rows → restored (columns_of rows) c r ≡ in_row rows r c
unfolding restored changed
restored-cell rows c zero t s k l = rw (columns-length rows) (column-at rows c 0 t k l)
restored-cell rows c (suc r) t s k l =
    rw (columns-length rows, restored-cell rows c r t s k (omega arith), column-at rows c (suc r) t k l)
    (minus_plus (in_row rows (suc r) c) (in_row rows r c) (s (10 * suc r + c)) (s (10 * r + c)))

pub rows-restored : (rows : List ℕ) → Tens rows → Small rows → rows_of_columns (columns_of rows) ≡ rows
unfolding rows_of_columns row_number_at
rows-restored rows t s =
    rw (columns-length rows)
    (ext_get_or 0 _ rows (length-up_to (length rows) _)
    (λ k l.
    let b : k < length rows = rw (length-up_to (length rows) (row_number_at (columns_of rows))) at l in
    get_d-up_to (length rows) _ k b ∙ restored-cell rows (k % 10) (k / 10) t s (omega arith) (omega arith) ∙ ap (λ (j : ℕ). get_or rows j 0) (omega arith)))

rows-length : (columns : List ℕ) → length (rows_of_columns columns) ≡ length columns
unfolding rows_of_columns
rows-length columns = length-up_to (length columns) _

row-at : (columns : List ℕ) (c r : ℕ) → Tens columns → c < 10 → r < height columns → in_row (rows_of_columns columns) r c ≡ restored columns c r
unfolding rows_of_columns row_number_at
row-at columns c r t k l =
    let m : (10 * r + c) % 10 ≡ c = omega arith in
    let d : (10 * r + c) / 10 ≡ r = omega arith in
    get_d-up_to (length columns) _ (10 * r + c) (omega arith) ∙ rw (m, d)

restored-small : (columns : List ℕ) (c r : ℕ) → Small columns → restored columns c r < modulus
unfolding restored
restored-small columns c zero s = s (c * height columns + 0)
restored-small columns c (suc r) s = plus-small (restored columns c r) (in_column columns c (suc r))

changed-cell : (columns : List ℕ) (c r : ℕ) → Tens columns → Small columns → c < 10 → r < height columns → changed (rows_of_columns columns) c r ≡ in_column columns c r
unfolding changed restored
changed-cell columns c zero t s k l = row-at columns c 0 t k l
changed-cell columns c (suc r) t s k l =
    rw (row-at columns c (suc r) t k l, row-at columns c r t k (omega arith))
    (plus-minus (in_column columns c (suc r)) (restored columns c r) (s (c * height columns + suc r)) (restored-small columns c r s))

pub columns-restored : (columns : List ℕ) → Tens columns → 0 < height columns → Small columns → columns_of (rows_of_columns columns) ≡ columns
unfolding columns_of column_at
columns-restored columns t some s =
    rw (rows-length columns)
    (ext_get_or 0 _ columns (length-up_to (length columns) _)
    (λ k l.
    let b : k < length columns = rw (length-up_to (length columns) (column_at (rows_of_columns columns))) at l in
    let c : k / height columns < 10 = (div-lt_iff_lt-mul {x = k} {y = 10} some).1 (omega arith) in
    let cell = changed-cell columns (k / height columns) (k % height columns) t s c (mod-lt k some) in
    get_d-up_to (length columns) (column_at (rows_of_columns columns)) k b ∙ rw (rows-length columns) cell ∙ ap (λ (j : ℕ). get_or columns j 0) (div-add-mod' k (height columns))))
