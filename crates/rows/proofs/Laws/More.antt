-- A row and its texts behind the used parts add a row to a packing: each buffer by its own law of `filled`. Assumes nothing.
use Prim.Native.Nat.{ℕ, ◌+◌, ◌*◌, ◌≤◌}
use mathlib.Core.Path.{◌≡◌, refl, sym, ap, ◌∙◌}
use mathlib.Core.List.{List, [], ◌∷◌, ◌++◌}
use native.Mathlib.Omega.{arith}
use lib.ListN.{length, length-append}
use lib.Seq.{paste}
use Rattle.text.specs.Text.{join}
use Rattle.sheet.specs.Rows.{Row, names_of, filled}
use Rattle.rows.specs.declared.numbers.Used.{Used}
use Rattle.rows.specs.Packing.{Holds, numbers_of}
use Rattle.rows.proofs.Laws.Write.{names-one, length_more, packs-of, rows_more}
use Rattle.buffer.proofs.Laws.Buffer.{filled-append}

-- the names with one row's texts more
pub names_more : (names : List ℕ) (rs : List Row) (r : Row) (len : ℕ) → names ≡ filled len (names_of rs) → length (names_of rs) + length (join r.texts) ≤ len
    → paste names (length (names_of rs)) (join r.texts) (length (join r.texts)) ≡ filled len (names_of (rs ++ r ∷ []))
names_more names rs r len e room =
    let new = join r.texts in
    ap (λ (l : List ℕ). paste l (length (names_of rs)) new (length new)) e
    ∙ filled-append len (names_of rs) new (length (names_of rs)) (length new) refl refl room
    ∙ ap (filled len) (sym (names-one rs r))

pub holds_more : {rows names rows' names' z : List ℕ} {rs : List Row} {used : Used} (r : Row) (end : ℕ) → Holds rows names used z rs
    → 10 * (used.rows + 1) ≤ length rows → used.names + length (join r.texts) ≤ length names
    → rows' ≡ paste rows (10 * used.rows) (numbers_of used.names r) 10 → names' ≡ paste names used.names (join r.texts) (length (join r.texts))
    → end ≡ used.names + length (join r.texts) → Holds rows' names' (record { rows = used.rows + 1; names = end }) z (rs ++ r ∷ [])
holds_more {rows} {names} {rows'} {names'} {z} {rs} {used} r end h rows_room names_room e f g =
    let p = h.packs in
    let count = length_more rs r in
    let bytes : length (names_of (rs ++ r ∷ [])) ≡ used.names + length (join r.texts) = rw (names-one rs r, length-append, h.names_used) in
    record {
      packs = packs-of (length rows) (length names) p.ten (omega (arith, h.rows_used)) (omega arith)
          (e ∙ rw h.names_used (rows_more rows z rs r used.rows (length rows) p.ten p.rows_are h.rows_used rows_room))
          (f ∙ rw h.names_used (names_more names rs r (length names) p.names_are (omega (arith, h.names_used))));
      rows_used = omega (arith, h.rows_used);
      names_used = g ∙ sym bytes;
    }
