-- The numbers of the row at a place, as they stand in the buffer. By the definitions of `ten` and `unpack_row`. Assumes nothing.
use Prim.Native.Nat.{ℕ, ◌+◌, ◌*◌}
use mathlib.Core.Path.{◌≡◌, ap, ap₂, ◌∙◌}
use mathlib.Core.List.{List}
use native.Mathlib.Omega.{arith}
use native.Mathlib.Nat.{add-zero}
use lib.ListN.{get_or, drop}
use lib.Seq.{get_or-drop}
use Rattle.sheet.specs.Rows.{ten, text_at}
use Rattle.text.specs.Text.{between}
use Rattle.xsd_types.specs.Good.{used_pairs}
use Rattle.xsd_types.specs.Back.{text1}
use Rattle.xsd_types.specs.Places.{row_at}
use Rattle.xsd_types.proofs.Laws.Places.{text1-at}

-- the second text of a simple type, its base
pub row_at-base : (rows names : List ℕ) (p : ℕ) → get_or rows (10 * p) 0 ≡ 3 → text1 (row_at rows names p) ≡ text_at names (get_or rows (10 * p + 2 + 1) 0) (get_or rows (10 * p + 2 + 2) 0)
unfolding row_at ten used_pairs between
row_at-base rows names p e =
    text1-at names (ten (drop (10 * p) rows)) (rw (get_or-drop (10 * p) rows 0 0 ∙ ap (λ (n : ℕ). get_or rows n 0) (add-zero (10 * p)) ∙ e) (omega arith))
    ∙ ap₂ (text_at names) (get_or-drop (10 * p) rows 3 0 ∙ ap (λ (n : ℕ). get_or rows n 0) (omega arith)) (get_or-drop (10 * p) rows 4 0 ∙ ap (λ (n : ℕ). get_or rows n 0) (omega arith))
