-- The rows of a graph sheet by their places, row 0 at place 0, and those that are kept.
--     row_at         the row at place p, with its texts
--     rows_by_place  m rows from place p on
--     keeps         whether a row is kept: a head by its mark, another row with the row before it
--     kept_rows      those of m rows from place p on that are kept
--     asked         the names that a row leads to: of a root its type's, normalised, of another row its references
use Rattle.std.specs.Prelude.{ℕ, zero, suc, ◌*◌, Bool, not, List, [], ◌∷◌, ◌++◌, eqb, get_or, drop, if◌then◌else◌}
use Rattle.text.specs.Text.{Text}
use Rattle.sheet.specs.Rows.{Row, ten, unpack_row}
use Rattle.ir_types.specs.Tags.{root_tag}
use Rattle.ir_types.specs.Form.{used_pairs, is_type_tag}
use Rattle.ir_reduce.specs.Groups.{root_type, reference_in}

unfoldable pub row_at : List ℕ → List ℕ → ℕ → Row
row_at rows names p = unpack_row used_pairs names (ten (drop (10 * p) rows))

unfoldable pub rows_by_place : (ℕ → Row) → ℕ → ℕ → List Row
rows_by_place f p zero = []
rows_by_place f p (suc m) = f p ∷ rows_by_place f (suc p) m

unfoldable pub keeps : Bool → ℕ → ℕ → Bool
keeps before tag mark = if is_type_tag tag then not (eqb mark 0) else before

abbrev pub one_if : Bool → Row → List Row
one_if b r = if b then r ∷ [] else []

unfoldable pub kept_rows : (ℕ → Row) → List ℕ → Bool → ℕ → ℕ → List Row
kept_rows f marks before p zero = []
kept_rows f marks before p (suc m) =
    let now = keeps before (f p).tag (get_or marks p 0) in
    one_if now (f p) ++ kept_rows f marks now (suc p) m

unfoldable pub asked : Row → List Text
asked r = if eqb r.tag root_tag then root_type r ∷ [] else reference_in r
