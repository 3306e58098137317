-- Named in docs/PORT.md. No contract cites them. Assumes nothing.
use Rattle.std.specs.Prelude.{Some, None}
use Prim.Native.Nat.{ℕ, ◌+◌, ◌-◌, ◌*◌, ◌≤◌, ◌<◌}
use mathlib.Core.Path.{◌≡◌, refl, sym, ap₂, ◌∙◌}
use mathlib.Core.Bool.{Bool, true, false, ◌&&◌, ◌||◌}
use mathlib.Core.List.{List}
use lib.Dec.{eqb, leb}
use lib.ListN.{length, drop}
use borrow.Author.Tests.{eqb-true}
use Rattle.text.specs.Text.{between}
use Rattle.text.proofs.Laws.Tests.{and-true-left}
use Rattle.sheet.specs.Rows.{Ten, ten, tens}
use Rattle.sheet.specs.Form.{row_covers, end_of}
use Rattle.sheet.specs.Calls.{sheet}
use Rattle.xsd_types.specs.Row0.{Row0}
use Rattle.xsd_types.specs.Good.{used_pairs, is_head, head_after, last_head, bare_good}
use Rattle.rows.specs.declared.scan.Scan.{Scan}
use Rattle.rows.specs.Lengths.{parts_fit}
use Rattle.rows.specs.Scan.{first_passes, next_row, scanned}
use Rattle.rows.proofs.Laws.Room.{parts-inside}
use Rattle.rows.proofs.Laws.Tens.{tens-more}
use Rattle.rows.proofs.Laws.Scan.{first-passes, next-on, next-fails}
use Rattle.xsd_good.specs.Forms.{schema_tests}
use Rattle.xsd_good.proofs.Laws.Good.{too-short}

pub parts_in : (z : Row0) (r n : ℕ) → parts_fit z.rows_used z.names_used r n ≡ true → (2 ≤ z.rows_used) × (10 * z.rows_used ≤ r) × (z.names_used ≤ n)
parts_in z r n e = parts-inside z.rows_used z.names_used r n e

-- the used parts that the second test finds lie inside the buffers
pub inside : (z : Row0) (rows names : ℕ) {u : Bool} → u ≡ parts_fit z.rows_used z.names_used rows names → u ≡ true → (2 ≤ z.rows_used) × (10 * z.rows_used ≤ rows) × (z.names_used ≤ names)
inside z rows names e h = parts_in z rows names (sym e ∙ h)

-- a test of the tags without a pair, and of those with two, comes out as the definition's does
pub has-pairs : (tag : ℕ) {p q : Bool} → p ≡ between 6 7 tag → q ≡ between 10 11 tag → p || q ≡ false → between 6 7 tag || between 10 11 tag ≡ false
has-pairs tag e f h = sym (ap₂ ◌||◌ e f) ∙ h

pub two-pairs : (tag : ℕ) {p q : Bool} → p ≡ between 2 3 tag → q ≡ between 17 20 tag → p || eqb tag 14 || q ≡ between 2 3 tag || eqb tag 14 || between 17 20 tag
two-pairs tag e f = ap₂ ◌||◌ (ap₂ ◌||◌ e refl) f

pub too_short : (rows names : List ℕ) → length rows < 20 → bare_good (sheet rows names) ≡ false
too_short rows names h = too-short rows names h

pub first_passes_lem : (limit : ℕ) (t : Ten) {v b : Bool} {e l : ℕ} → v ≡ row_covers used_pairs 0 t → e ≡ end_of 0 t → l ≡ limit
    → eqb t.tag 1 && eqb t.a 0 && eqb t.b 0 && eqb t.c 0 && v && leb e l ≡ b → first_passes schema_tests limit t ≡ b
first_passes_lem limit t v e l test = first-passes schema_tests limit t v e l test

pub scan_step : (limit : ℕ) (s : Scan) (left at : ℕ) (rows : List ℕ) (t : Ten) (next : Scan) → 0 < left → t ≡ ten (drop at rows) → Some next ≡ next_row schema_tests limit s t
    → scanned schema_tests limit next (tens (left - 1) (drop (at + 10) rows)) ≡ scanned schema_tests limit s (tens left (drop at rows))
scan_step limit s left at rows t next h e n = rw (tens-more left at rows h, ← e) (next-on schema_tests limit s t next _ n)

-- a row that fails ends the pass
pub scan_step-fails : (limit : ℕ) (s : Scan) (left at : ℕ) (rows : List ℕ) (t : Ten) → 0 < left → t ≡ ten (drop at rows) → None ≡ next_row schema_tests limit s t
    → None ≡ scanned schema_tests limit s (tens left (drop at rows))
scan_step-fails limit s left at rows t h e n = rw (tens-more left at rows h, ← e) (next-fails schema_tests limit s t _ n)

pub head_first : (t : Ten) (rest : List ℕ) → eqb t.tag 1 && eqb t.a 0 && eqb t.b 0 && eqb t.c 0 ≡ true → last_head 0 rest ≡ last_head (head_after 0 t.tag) rest
unfolding head_after is_head between
head_first t rest e =
    let ab = and-true-left (eqb t.tag 1 && eqb t.a 0 && eqb t.b 0) (eqb t.c 0) e in
    let a = and-true-left (eqb t.tag 1 && eqb t.a 0) (eqb t.b 0) ab in
    rw (eqb-true t.tag 1 (and-true-left (eqb t.tag 1) (eqb t.a 0) a))
