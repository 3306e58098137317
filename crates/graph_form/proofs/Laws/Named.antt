-- Named in docs/PORT.md. No contract cites them. Assumes nothing.
use Rattle.std.specs.Prelude.{Some, None}
use Prim.Native.Nat.{ℕ, ◌+◌, ◌-◌, ◌*◌, ◌≤◌, ◌<◌}
use native.Mathlib.Omega.{arith}
use mathlib.Core.Path.{◌≡◌, sym, ◌∙◌}
use mathlib.Core.Bool.{Bool, true, false, ◌&&◌, ◌||◌}
use mathlib.Core.List.{List, [], ◌∷◌, ◌++◌}
use lib.Dec.{eqb, leb}
use lib.ListN.{length, drop}
use borrow.Author.Tests.{ne_eqb}
use Rattle.text.specs.Text.{between}
use Rattle.text.proofs.Laws.Tests.{if-cases, bool_cases}
use Rattle.sheet.specs.Rows.{Ten, ten, tens}
use Rattle.sheet.specs.Form.{row_covers, end_of}
use Rattle.sheet.specs.Calls.{sheet}
use Rattle.ir_types.specs.Tags.{min_length_tag, max_length_tag, total_digits_tag, fraction_digits_tag}
use Rattle.ir_types.specs.Form.{used_pairs, is_type_tag, count, tags_of, graph_form}
use Rattle.rows.specs.declared.scan.Scan.{Scan}
use Rattle.rows.specs.Lengths.{parts_fit}
use Rattle.rows.specs.Scan.{first_passes, first_row, next_row, scanned}
use Rattle.rows.proofs.Laws.Room.{parts-inside}
use Rattle.rows.proofs.Laws.Tens.{tens-more}
use Rattle.rows.proofs.Laws.Scan.{first-passes, first-end, next-end, next-on, next-fails}
use Rattle.graph_form.specs.Tests.{graph_tests, is_root}
use Rattle.graph_form.proofs.Laws.Form.{too-short}

pub parts_in : (z : Ten) (r n : ℕ) → parts_fit z.at0 z.len0 r n ≡ true → (2 ≤ z.at0) × (10 * z.at0 ≤ r) × (z.len0 ≤ n)
parts_in z r n e = parts-inside z.at0 z.len0 r n e

pub too_short : (rows names : List ℕ) → length rows < 20 → graph_form (sheet rows names) ≡ false
too_short rows names h = too-short rows names h

pub first_passes_lem : (limit : ℕ) (t : Ten) {v b : Bool} {e l : ℕ} → v ≡ row_covers used_pairs 0 t → e ≡ end_of 0 t → l ≡ limit
    → eqb t.tag 1 && eqb t.a 0 && eqb t.b 0 && eqb t.c 0 && v && leb e l ≡ b → first_passes graph_tests limit t ≡ b
first_passes_lem limit t v e l test = first-passes graph_tests limit t v e l test

-- the used parts that the second test finds lie inside the buffers
pub fits : (z : Ten) (rows names : List ℕ) {r : Bool} → r ≡ parts_fit z.at0 z.len0 (length rows) (length names) → r ≡ true → parts_fit z.at0 z.len0 (length rows) (length names) ≡ true
fits z rows names e t = sym e ∙ t

pub inside : (z : Ten) (rows names : List ℕ) {r : Bool} → r ≡ parts_fit z.at0 z.len0 (length rows) (length names) → r ≡ true
    → (2 ≤ z.at0) × (10 * z.at0 ≤ length rows) × (z.len0 ≤ length names)
inside z rows names e t = parts_in z (length rows) (length names) (fits z rows names e t)

-- a length or a count of digits
unfoldable pub IsCount : ℕ → Bool
IsCount tag = between min_length_tag max_length_tag tag || between total_digits_tag fraction_digits_tag tag

-- any other row has a pair
pub has-pairs : (tag : ℕ) {r : Bool} → r ≡ IsCount tag → r ≡ false → IsCount tag ≡ false
has-pairs tag e f = sym e ∙ f

pub no_value : (tag : ℕ) {r : Bool} → r ≡ IsCount tag → r ≡ false → (tag ≡ 8 → ⊥) → (tag ≡ 7 → ⊥) → (IsCount tag ≡ false) × (eqb tag 8 ≡ false) × (eqb tag 7 ≡ false)
no_value tag e f g h = (has-pairs tag e f, ne_eqb _ _ g, ne_eqb _ _ h)

-- the end is at most the limit, and so many roots and types at most are among the rows ts that passed behind row 1, as `count_roots` and `count_types` count them
pub record Small (limit r y : ℕ) (s : Scan) (ts : List Ten) : Type 0 where
  pub end : s.end ≤ limit
  pub roots : count is_root (tags_of ts) ≤ r
  pub types : count is_type_tag (tags_of ts) ≤ y

-- a row more is one more at most
count-next : (p : ℕ → Bool) (ts : List Ten) (t : Ten) → count p (tags_of (ts ++ t ∷ [])) ≤ count p (tags_of ts) + 1
unfolding count tags_of
count-next p [] t = if-cases (λ (n : ℕ). n ≤ 1) (p t.tag) (λ e. omega arith) (λ e. omega arith)
count-next p (u ∷ ts) t =
    let rest = count-next p ts t in
    bool_cases (p u.tag) (λ e. rw e (omega (arith, rest))) (λ e. rw e rest)

pub first_small : (limit : ℕ) (t : Ten) (s : Scan) → Some s ≡ first_row graph_tests limit t → Small limit 0 0 s []
unfolding count tags_of
first_small limit t s e = record { end = first-end graph_tests limit t s e; roots = omega arith; types = omega arith }

pub next_small : (limit : ℕ) (s : Scan) (t : Ten) (next : Scan) (ts : List Ten) → Some next ≡ next_row graph_tests limit s t
    → Small limit (count is_root (tags_of ts) + 1) (count is_type_tag (tags_of ts) + 1) next (ts ++ t ∷ [])
next_small limit s t next ts e = record { end = next-end graph_tests limit s t next e; roots = count-next is_root ts t; types = count-next is_type_tag ts t }

pub scan_step : (limit : ℕ) (s : Scan) (left at : ℕ) (rows : List ℕ) (t : Ten) (next : Scan) → 0 < left → t ≡ ten (drop at rows) → Some next ≡ next_row graph_tests limit s t
    → scanned graph_tests limit next (tens (left - 1) (drop (at + 10) rows)) ≡ scanned graph_tests limit s (tens left (drop at rows))
scan_step limit s left at rows t next h e n = rw (tens-more left at rows h, ← e) (next-on graph_tests limit s t next _ n)

-- a row that fails ends the pass
pub scan_step-fails : (limit : ℕ) (s : Scan) (left at : ℕ) (rows : List ℕ) (t : Ten) → 0 < left → t ≡ ten (drop at rows) → None ≡ next_row graph_tests limit s t
    → None ≡ scanned graph_tests limit s (tens left (drop at rows))
scan_step-fails limit s left at rows t h e n = rw (tens-more left at rows h, ← e) (next-fails graph_tests limit s t _ n)
