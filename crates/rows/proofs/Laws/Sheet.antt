-- A packing as the sheet that the definitions name, `sheet_of_rows`. Assumes nothing.
use Prim.Native.Nat.{ℕ, ◌+◌, ◌*◌, ◌≤◌}
use mathlib.Core.Path.{◌≡◌, refl, ap}
use mathlib.Core.List.{List, [], ◌∷◌}
use lib.ListN.{length}
use Rattle.sheet.specs.Rows.{Ten, Row, Sheet, numbers, names_of, sheet_of_rows}
use Rattle.rows.specs.Packing.{Packs}
use Rattle.rows.proofs.Laws.Write.{packs-of}

pub packs-sheet : {rows names : List ℕ} {rs : List Row} (row0 : Ten) → Packs rows names (numbers (row0 ∷ [])) rs
    → ◌≡◌ {A = Sheet} (record { rows = rows; names = names }) (sheet_of_rows row0 rs (length rows) (length names))
unfolding sheet_of_rows numbers
packs-sheet row0 p = λ i. record { rows = p.rows_are i; names = p.names_are i }

pub sheet-packs : (x : Sheet) (row0 : Ten) (rs : List Row) (n m : ℕ) → 10 * (1 + length rs) ≤ n → length (names_of rs) ≤ m → x ≡ sheet_of_rows row0 rs n m
    → Packs x.rows x.names (numbers (row0 ∷ [])) rs
unfolding sheet_of_rows numbers
sheet-packs x row0 rs n m fits_rows fits_names e = packs-of n m refl fits_rows fits_names (ap (λ (y : Sheet). y.rows) e) (ap (λ (y : Sheet). y.names) e)
