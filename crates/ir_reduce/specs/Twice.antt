-- Order 6, a call on what a call left: "reducing twice equals reducing once".
--     used_rows      the numbers of the rows that are used, row 0 among them; used_names: the bytes of the names that are used
--     SameUsed y z   z has the used rows and names of y, and is y where it has its lengths
use Rattle.std.specs.Prelude.{ℕ, ◌*◌, ◌≡◌, List, length, take}
use Rattle.text.specs.Text.{Text}
use Rattle.sheet.specs.Rows.{Sheet}
use Rattle.sheet.specs.Limits.{row_numbers}
use Rattle.sheet.specs.Form.{rows_used_of, names_used_of}

unfoldable pub used_rows : Sheet → List ℕ
used_rows x = take (row_numbers * rows_used_of x) x.rows

unfoldable pub used_names : Sheet → Text
used_names x = take (names_used_of x) x.names

pub record SameUsed (y z : Sheet) : Type 0 where
  pub rows : used_rows z ≡ used_rows y
  pub names : used_names z ≡ used_names y
  pub whole : length z.rows ≡ length y.rows → length z.names ≡ length y.names → z ≡ y
