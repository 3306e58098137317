-- A row in the middle of a packing, with what stands around it: what its numbers are, and that the packing fits into the buffers. Assumes nothing.
use Prim.Native.Nat.{ℕ, ◌+◌, ◌-◌, ◌*◌, ◌≤◌, ◌<◌}
use mathlib.Core.Path.{◌≡◌, refl, ap, ◌∙◌}
use mathlib.Core.List.{List, ◌∷◌, ◌++◌, append_assoc}
use lib.ListN.{length, get_or, get_or-append}
use lib.Seq.{get_or-append-add}
use Rattle.text.specs.Text.{join}
use Rattle.sheet.specs.Rows.{Row, numbers, pack, names_of, filled}
use Rattle.rows.specs.Packing.{Packs, numbers_of}
use Rattle.buffer.proofs.Laws.Buffer.{zeros, filled-fits}
use Rattle.rows.proofs.Laws.Pack.{used-append, used-length}
use Rattle.rows.proofs.Laws.Write.{length-numbers_of}

-- what stands in a list behind its first part
pub get_d-middle : (p q r s : List ℕ) (i n : ℕ) → n ≡ length p + i → i < length q → get_or (p ++ (q ++ r) ++ s) n 0 ≡ get_or q i 0
get_d-middle p q r s i n e h =
    rw (e, append_assoc p (q ++ r) s, append_assoc q r s) (get_or-append-add p (q ++ (r ++ s)) i 0 ∙ get_or-append q (r ++ s) 0 i h)

-- a row first, and the rows behind it
pub pack-first : (k : ℕ) (r : Row) (us : List Row) → numbers (pack k (r ∷ us)) ≡ numbers_of k r ++ numbers (pack (k + length (join r.texts)) us)
unfolding numbers_of numbers pack
pack-first k r us = refl

-- a row of a packing, with what stands around it
pub filled_around : (n : ℕ) (z : List ℕ) (rs us : List Row) (r : Row) → length z ≡ 10
    → filled n (z ++ numbers (pack 0 (rs ++ r ∷ us))) ≡ z ++ numbers (pack 0 rs)
    ++ (numbers_of (length (names_of rs)) r ++ numbers (pack (length (names_of rs) + length (join r.texts)) us)) ++ zeros (n - 10 * (1 + length (rs ++ r ∷ us)))
unfolding filled
filled_around n z rs us r ten =
    rw (used-length z (rs ++ r ∷ us) ten)
    (ap (λ (l : List ℕ). l ++ zeros (n - 10 * (1 + length (rs ++ r ∷ us))))
    (used-append z rs (r ∷ us) ∙ ap (λ (l : List ℕ). z ++ numbers (pack 0 rs) ++ l) (pack-first (length (names_of rs)) r us)))

-- a number of a row of the sheet
pub number_at : {rows names z : List ℕ} (rs us : List Row) (r : Row) (i n : ℕ) → Packs rows names z (rs ++ r ∷ us) → n ≡ 10 * (1 + length rs) + i → i < 10
    → get_or rows n 0 ≡ get_or (numbers_of (length (names_of rs)) r) i 0
number_at {rows} {names} {z} rs us r i n p e h =
    let k = length (names_of rs) in
    ap (λ (l : List ℕ). get_or l n 0) (p.rows_are ∙ filled_around (length rows) z rs us r p.ten)
    ∙ get_d-middle (z ++ numbers (pack 0 rs)) (numbers_of k r) (numbers (pack (k + length (join r.texts)) us))
    (zeros (length rows - 10 * (1 + length (rs ++ r ∷ us)))) i n (rw (used-length z rs p.ten) e) (rw (length-numbers_of k r) h)

-- what the sheet holds fits into it
pub rows_fit : {rows names z : List ℕ} {rs : List Row} → Packs rows names z rs → 10 * (1 + length rs) ≤ length rows
rows_fit {rows} {names} {z} {rs} p = rw (used-length z rs p.ten) at (filled-fits rows (z ++ numbers (pack 0 rs)) p.rows_are)

pub names-fit : {rows names z : List ℕ} {rs : List Row} → Packs rows names z rs → length (names_of rs) ≤ length names
names-fit {rows} {names} {z} {rs} p = filled-fits names (names_of rs) p.names_are
