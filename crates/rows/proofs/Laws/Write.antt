-- What a store into the rows makes of a packing: a row behind the used part adds a row, ten other numbers in front are another row 0. By the laws of
-- `filled`, and the packing of the longer list by the laws of `pack`. Assumes nothing.
use Prim.Native.Nat.{ℕ, ◌+◌, ◌-◌, ◌*◌, ◌≤◌}
use mathlib.Core.Path.{◌≡◌, refl, sym, ap, ◌∙◌}
use mathlib.Core.List.{List, [], ◌∷◌, ◌++◌, append_assoc, append-nil}
use native.Mathlib.Omega.{arith}
use lib.ListN.{length, length-append}
use lib.Seq.{paste}
use Rattle.text.specs.Text.{join}
use Rattle.sheet.specs.Rows.{Row, numbers, pack, names_of, filled}
use Rattle.rows.specs.Packing.{Packs, numbers_of}
use Rattle.buffer.proofs.Laws.Buffer.{zeros, paste-at, filled-fits, filled-own, filled-append}
use Rattle.rows.proofs.Laws.Pack.{used-append, used-length}
use Rattle.sheet.proofs.Laws.Packs.{names_of-append}

-- a row's numbers are the packing of it alone
pub pack_one : (k : ℕ) (r : Row) → numbers (pack k (r ∷ [])) ≡ numbers_of k r
unfolding numbers_of numbers pack
pack_one k r = refl

pub length-numbers_of : (k : ℕ) (r : Row) → length (numbers_of k r) ≡ 10
unfolding numbers_of numbers
length-numbers_of k r = refl

pub names-one : (rs : List Row) (r : Row) → names_of (rs ++ r ∷ []) ≡ names_of rs ++ join r.texts
unfolding names_of
names-one rs r = rw (names_of-append rs (r ∷ []), append-nil)

pub length_more : (rs : List Row) (r : Row) → length (rs ++ r ∷ []) ≡ length rs + 1
length_more rs r = length-append rs (r ∷ [])

-- buffers that are filled with a packing, by the lengths' own names
pub packs-of : {rows names z : List ℕ} {rs : List Row} (n m : ℕ) → length z ≡ 10 → 10 * (1 + length rs) ≤ n → length (names_of rs) ≤ m
    → rows ≡ filled n (z ++ numbers (pack 0 rs)) → names ≡ filled m (names_of rs) → Packs rows names z rs
packs-of {rows} {names} {z} {rs} n m ten fits_rows fits_names e f =
    record {
      ten = ten;
      rows_are = filled-own n rows (z ++ numbers (pack 0 rs)) (rw (used-length z rs ten) fits_rows) e;
      names_are = filled-own m names (names_of rs) fits_names f;
    }

-- another row 0
pub packs-row0 : {rows names z rows' : List ℕ} {rs : List Row} (z' : List ℕ) → Packs rows names z rs → length z' ≡ 10 → rows' ≡ paste rows 0 z' 10 → Packs rows' names z' rs
unfolding filled
packs-row0 {rows} {names} {z} {rows'} {rs} z' p ten e =
    let x = numbers (pack 0 rs) in
    let same : length (z ++ x) ≡ length (z' ++ x) = used-length z rs p.ten ∙ sym (used-length z' rs ten) in
    let rest = zeros (length rows - length (z ++ x)) in
    let stored : rows' ≡ z' ++ (x ++ rest) = e ∙ ap (λ (l : List ℕ). paste l 0 z' 10) (p.rows_are ∙ append_assoc z x rest) ∙ paste-at [] z (x ++ rest) z' 0 10 refl p.ten ten in
    packs-of (length rows) (length names) ten (rw (used-length z rs p.ten) at (filled-fits rows (z ++ x) p.rows_are)) (filled-fits names (names_of rs) p.names_are)
    (stored ∙ rw (← same) (sym (append_assoc z' x rest))) p.names_are

-- the rows with one row more
pub rows_more : (rows z : List ℕ) (rs : List Row) (r : Row) (n len : ℕ) → length z ≡ 10 → rows ≡ filled len (z ++ numbers (pack 0 rs)) → n ≡ 1 + length rs → 10 * (n + 1) ≤ len
    → paste rows (10 * n) (numbers_of (length (names_of rs)) r) 10 ≡ filled len (z ++ numbers (pack 0 (rs ++ r ∷ [])))
rows_more rows z rs r n len ten e count room =
    let new = numbers_of (length (names_of rs)) r in
    ap (λ (l : List ℕ). paste l (10 * n) new 10) e
    ∙ filled-append len (z ++ numbers (pack 0 rs)) new (10 * n) 10 (used-length z rs ten ∙ omega arith) (length-numbers_of (length (names_of rs)) r) (omega arith)
    ∙ ap (filled len) (sym (used-append z rs (r ∷ []) ∙ ap (λ (l : List ℕ). z ++ numbers (pack 0 rs) ++ l) (pack_one (length (names_of rs)) r)))
