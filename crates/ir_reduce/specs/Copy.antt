-- A row copied with its texts into other names.
--     bytes_of       how many bytes the texts of a row have
--     Stands        the pairs of the row at place p stand side by side inside the names
--     moved_numbers  the ten numbers of a row that uses so many pairs, its texts in the names from `at`
use Rattle.std.specs.Prelude.{ℕ, ◌+◌, ◌*◌, ◌≤◌, ◌≡◌, true, List, [], ◌∷◌, leb, length, drop, if◌then◌else◌}
use Rattle.sheet.specs.Rows.{Ten, ten}
use Rattle.sheet.specs.Form.{row_covers, end_of}
use Rattle.ir_types.specs.Form.{used_pairs}

abbrev pub bytes_of : Ten → ℕ
bytes_of t = t.len0 + t.len1 + t.len2

pub record Stands (rows names : List ℕ) (p : ℕ) : Type 0 where
  pub from : ℕ
  pub covers : row_covers used_pairs from (ten (drop (10 * p) rows)) ≡ true
  pub few : used_pairs (ten (drop (10 * p) rows)).tag (ten (drop (10 * p) rows)).a ≤ 3
  pub inside : end_of from (ten (drop (10 * p) rows)) ≤ length names

abbrev pub moved_numbers : Ten → ℕ → ℕ → List ℕ
moved_numbers t used at =
    t.tag ∷ (if leb 1 used then at else 0) ∷ t.len0 ∷ (if leb 2 used then at + t.len0 else 0) ∷ t.len1 ∷ (if leb 3 used then at + t.len0 + t.len1 else 0) ∷ t.len2 ∷ t.a ∷ t.b ∷ t.c ∷ []
