-- A sheet that is the packing of rows behind a row 0. What holds of every list of rows that the sheet was the packing of is a record's field, so that
-- a caller names it.
--     Packs         the two buffers are the packing of the rows rs behind the ten numbers z, zeros behind
--     Holds         the same, and the used parts are as long as the rows say
--     row_of         the row of the numbers and texts that a writer is handed
--     numbers_of     a row as ten numbers, its texts in the names from k
--     Row0Put       row 0 is another one
use Rattle.std.specs.Prelude.{ℕ, ◌+◌, ◌≡◌, List, [], ◌∷◌, ◌++◌, length}
use Rattle.text.specs.Text.{Text}
use Rattle.sheet.specs.Rows.{Row, row, numbers, pack_row, pack, names_of, filled}
use Rattle.rows.specs.declared.numbers.Used.{Used}
use Rattle.rows.specs.declared.numbers.RowNumbers.{RowNumbers}

pub record Packs (rows names : List ℕ) (z : List ℕ) (rs : List Row) : Type 0 where
  pub ten : length z ≡ 10
  pub rows_are : rows ≡ filled (length rows) (z ++ numbers (pack 0 rs))
  pub names_are : names ≡ filled (length names) (names_of rs)

-- "rows used" counts row 0
pub record Holds (rows names : List ℕ) (used : Used) (z : List ℕ) (rs : List Row) : Type 0 where
  pub packs : Packs rows names z rs
  pub rows_used : used.rows ≡ 1 + length rs
  pub names_used : used.names ≡ length (names_of rs)

abbrev pub row_of : RowNumbers → List Text → Row
row_of n texts = row n.tag texts n.a n.b n.c

unfoldable pub numbers_of : ℕ → Row → List ℕ
numbers_of k r = numbers (pack_row k r ∷ [])

pub record Row0Put (rows z' rows' : List ℕ) : Type 0 where
  pub rows_length : length rows' ≡ length rows
  pub packs : (names z : List ℕ) (rs : List Row) → Packs rows names z rs → Packs rows' names z' rs
