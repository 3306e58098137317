-- Laws of the test of the form: the used parts are looked at first, and where they lie inside the buffers the other parts of `graph_form` are those of
-- row 0, of the pass over the rows, of the counts and of the two buffers. Assumes nothing.
use Rattle.std.specs.Prelude.{Some, None}
use mathlib.Core.Path.{◌≡◌, refl, sym, ap}
use mathlib.Core.Bool.{Bool, true, false, ◌&&◌, ◌||◌, and_assoc, and-true, and-false}
use mathlib.Core.List.{List, [], ◌∷◌}
use Prim.Native.Nat.{ℕ, ◌-◌, ◌*◌, ◌<◌}
use native.Mathlib.Omega.{arith}
use lib.Dec.{eqb}
use lib.ListN.{length, take, drop}
use Rattle.text.specs.Text.{every, is_plain, is_graph_text}
use Rattle.std.proofs.lemmas.Bool.{false_from_ne_true}
use Rattle.sheet.specs.Rows.{Ten, ten, tens, all_zero}
use Rattle.sheet.specs.Form.{row0_of, tens_of, used_parts, zeros_behind, texts_pass}
use Rattle.sheet.specs.Calls.{sheet}
use Rattle.sheet.proofs.Laws.Sheets.{each-row}
use Rattle.ir_types.specs.Row0.{graph_row0_from}
use Rattle.ir_types.specs.Form.{used_pairs, is_type_tag, in_order, tags_of, count, row0_form, rows_form, names_form, graph_form}
use Rattle.ir_types.proofs.Laws.Whole.{form-whole}
use Rattle.rows.specs.declared.scan.Scan.{Scan}
use Rattle.rows.specs.Lengths.{parts_fit}
use Rattle.rows.specs.Scan.{scanned_sheet, row_texts}
use Rattle.rows.proofs.Laws.Room.{parts-inside}
use Rattle.rows.proofs.Laws.Tens.{tens-two}
use Rattle.rows.proofs.Laws.Scan.{in_order as in_order_by, ends, sheet-ends, tags}
use Rattle.graph_form.specs.Tests.{graph_tests, is_root}

-- the order by the record of tests is that of the definition
orders : (head : ℕ) (tags : List ℕ) → in_order_by graph_tests head tags ≡ in_order head tags
unfolding in_order_by in_order
orders head [] = refl
orders head (tag ∷ tags) = ap (λ (b : Bool). graph_tests.follows head tag && b) (orders (graph_tests.head_after head tag) tags)

-- the tests in the definition's order
in-turn : (f a n r y b t : Bool) → f && (a && (n && true)) && r && y && b && t ≡ f && (a && r && y) && n && b && t
in-turn f a true r y b t = rw (and-true a, and-true (f && (a && r && y))) (simp and_assoc)
in-turn f a false r y b t = rw (and-false a, and-false f, and-false (f && (a && r && y)))

-- all that is asked beside the pass and the counts: of row 0 and of what stands behind and in the used parts
abbrev pub zeros : List ℕ → List ℕ → Ten → Bool
zeros rows names z = all_zero (drop (10 * z.at0) rows) && all_zero (drop z.len0 names)

abbrev pub texts : List ℕ → Ten → List Ten → Bool
texts names z ts = is_plain (take z.len0 names) || every (row_texts graph_tests names) ts

-- the rows behind row 1
abbrev pub rest : List ℕ → Ten → List Ten
rest rows z = tens (z.at0 - 2) (drop 20 rows)

module _ (rows names : List ℕ) where
  pub outside : (z : Ten) → z ≡ ten rows → parts_fit z.at0 z.len0 (length rows) (length names) ≡ false → graph_form (sheet rows names) ≡ false
  unfolding graph_form used_parts row0_of parts_fit
  outside z e h = let f = rw e at h in rw f

  pub too-short : length rows < 20 → graph_form (sheet rows names) ≡ false
  too-short h =
      outside (ten rows) refl (false_from_ne_true _ (λ e. omega (arith, parts-inside (ten rows).at0 (ten rows).len0 (length rows) (length names) e)))

  -- the names are asked row by row
  each-text : texts_pass is_graph_text used_pairs (sheet rows names) ≡ every (row_texts graph_tests names) (tens_of (sheet rows names))
  unfolding texts_pass row_texts
  each-text = sym (each-row is_graph_text used_pairs names (tens_of (sheet rows names)))

  -- the pass and the counts
  in-parts : parts_fit (ten rows).at0 (ten rows).len0 (length rows) (length names) ≡ true
      → row0_form (graph_row0_from (ten rows)) && ends (ten rows).len0 (λ (head : ℕ). true) (scanned_sheet graph_tests (ten rows).len0 (ten (drop 10 rows) ∷ rest rows (ten rows)))
      && eqb (ten rows).at1 (count is_root (tags_of (rest rows (ten rows)))) && eqb (ten rows).len1 (count is_type_tag (tags_of (rest rows (ten rows))))
      && zeros rows names (ten rows) && texts names (ten rows) (tens ((ten rows).at0 - 1) (drop 10 rows)) ≡ graph_form (sheet rows names)
  unfolding used_parts row0_of zeros_behind tens_of parts_fit rows_form names_form tags_of
  in-parts h =
      let z = ten rows in
      let two = (parts-inside z.at0 z.len0 (length rows) (length names) h).0 in
      rw (
        form-whole (sheet rows names),
        each-text,
        sheet-ends graph_tests z.len0 (λ (head : ℕ). true) (ten (drop 10 rows)) (rest rows z),
        orders 1 (tags (rest rows z)),
        h,
        tens-two z.at0 rows two,
      ) (search in-turn)

  -- of the results that the code's calls give
  module _ (z : Ten) (e : z ≡ ten rows) (h : parts_fit z.at0 z.len0 (length rows) (length names) ≡ true) where
    pub form-tests : (s : Scan) {f b n : Bool} {t : Ten} {roots types : ℕ} → f ≡ row0_form (graph_row0_from z) → b ≡ zeros rows names z → n ≡ texts names z (tens (z.at0 - 1) (drop 10 rows))
        → t ≡ ten (drop 10 rows) → roots ≡ count is_root (tags_of (rest rows z)) → types ≡ count is_type_tag (tags_of (rest rows z))
        → Some s ≡ scanned_sheet graph_tests z.len0 (t ∷ rest rows z) → f && eqb s.end z.len0 && eqb z.at1 roots && eqb z.len1 types && b && n ≡ graph_form (sheet rows names)
    form-tests s f b n t roots types d =
        let ended = rw (t, e) at d in
        let each = rw e at n in
        rw (f, b, each, roots, types, e) (rw (← ended, and-true) at (in-parts (rw e at h)))

    -- a row failed
    pub form-fails : {t : Ten} → t ≡ ten (drop 10 rows) → None ≡ scanned_sheet graph_tests z.len0 (t ∷ rest rows z) → false ≡ graph_form (sheet rows names)
    form-fails t d =
        let failed = rw (t, e) at d in
        rw (← failed, and-false) at (in-parts (rw e at h))
