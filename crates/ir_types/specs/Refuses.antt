-- The conditions of 16, as the table lists them. Paper 01: "label: length not a multiple of 10, no such row, tag not 5, 7, 9, 10 or 19, a above 5
-- (or 0 for tag 5), with a 0 the reference's pair outside the names, bad word list when a is 1 to 5".
--     has_tag        the row's tag is one of the five
--     refuses       one of the conditions holds
use Rattle.std.specs.Prelude.{ℕ, ◌+◌, ◌*◌, ◌%◌, List, Bool, not, ◌&&◌, ◌||◌, eqb, leb, ltb, length}
use Rattle.text.specs.Text.{between}
use Rattle.sheet.specs.Rows.{Ten}
use Rattle.ir_types.specs.Label.{good_words, row_ten, reference_at, reference_length}

unfoldable pub has_tag : Ten → Bool
has_tag t = eqb t.tag 5 || eqb t.tag 7 || eqb t.tag 9 || eqb t.tag 10 || eqb t.tag 19

unfoldable pub row_refuses : List ℕ → List ℕ → Ten → Bool
row_refuses names words t =
    not (has_tag t)
    || not (leb t.a 5)
    || (eqb t.tag 5 && eqb t.a 0)
    || (eqb t.a 0 && not (leb (reference_at t + reference_length t) (length names)))
    || (between 1 5 t.a && not (good_words words))

unfoldable pub refuses : List ℕ → List ℕ → List ℕ → ℕ → Bool
refuses rows names words k =
    not (eqb (length rows % 10) 0) || not (ltb (10 * k) (length rows)) || row_refuses names words (row_ten rows k)
