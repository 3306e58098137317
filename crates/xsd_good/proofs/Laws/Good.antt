-- Laws of the test of a good sheet: the used parts are looked at first, and where they lie inside the buffers
-- the other parts of `good` are those of row 0, of the pass over the rows and of the two buffers. Assumes nothing.
use mathlib.Core.Path.{◌≡◌, refl, sym, ap, ◌∙◌}
use mathlib.Core.Bool.{Bool, true, false, ◌&&◌, ◌||◌, and_assoc, and-true, and-false}
use mathlib.Core.List.{List, ◌∷◌}
use Prim.Native.Nat.{ℕ, ◌-◌, ◌*◌, ◌<◌}
use native.Mathlib.Omega.{arith}
use lib.Dec.{eqb}
use lib.ListN.{length, take, drop}
use Rattle.std.specs.Prelude.{None, Some}
use Rattle.text.specs.Text.{every, is_plain, is_text, between}
use Rattle.std.proofs.lemmas.Bool.{false_from_ne_true}
use Rattle.sheet.specs.Rows.{Ten, ten, tens, all_zero}
use Rattle.sheet.specs.Calls.{sheet}
use Rattle.sheet.specs.Form.{row0_of, tens_of, used_parts, zeros_behind, texts_pass}
use Rattle.sheet.proofs.Laws.Sheets.{each-row}
use Rattle.xsd_types.specs.Row0.{Row0, row0_from}
use Rattle.xsd_types.specs.Good.{used_pairs, row0_form, rows_form, names_form, names_test, limits, root_test, nesting_test, context_test, extension_test, head_of, events_test, bare_good}
use Rattle.xsd_types.proofs.Laws.Whole.{good-whole}
use Rattle.rows.specs.declared.scan.Scan.{Scan}
use Rattle.rows.specs.Lengths.{parts_fit}
use Rattle.rows.specs.Scan.{scanned_sheet, row_texts}
use Rattle.rows.proofs.Laws.Room.{parts-inside}
use Rattle.rows.proofs.Laws.Tens.{tens-two}
use Rattle.rows.proofs.Laws.Scan.{ends}
use Rattle.xsd_good.specs.Forms.{schema_tests}
use Rattle.xsd_good.proofs.Laws.Scan.{sheet-scanned}

-- what is asked of the two buffers behind and in the used parts
abbrev pub zeros : List ℕ → List ℕ → Row0 → Bool
zeros rows names z = all_zero (drop (10 * z.rows_used) rows) && all_zero (drop z.names_used names)

abbrev pub texts : List ℕ → Row0 → List Ten → Bool
texts names z ts = is_plain (take z.names_used names) || every (row_texts schema_tests names) ts

-- all that is asked behind the pass over the rows, of the last head that the pass found
abbrev pub behind : List ℕ → List ℕ → Row0 → ℕ → Bool
behind rows names z head =
    zeros rows names z
    && (texts names z (tens_of (sheet rows names))
    && (limits z && (root_test z &&
    (nesting_test z && (context_test z.context head && (extension_test z head && events_test z.events (tens (z.rows_used - 1) (drop 10 rows))))))))

-- the rows behind row 1
abbrev pub rest : List ℕ → Row0 → List Ten
rest rows z = tens (z.rows_used - 2) (drop 20 rows)

-- where no head came, the namespace's tag stands for it
no-head : (rows names : List ℕ) (z : Row0) → behind rows names z 1 ≡ behind rows names z 0
unfolding context_test extension_test between
no-head rows names z = refl

module _ (rows names : List ℕ) where
  pub outside : (z : Row0) → z ≡ row0_from (ten rows) → parts_fit z.rows_used z.names_used (length rows) (length names) ≡ false → bare_good (sheet rows names) ≡ false
  unfolding bare_good used_parts row0_of parts_fit
  outside z e h = let f = rw e at h in rw f

  pub too-short : length rows < 20 → bare_good (sheet rows names) ≡ false
  too-short h =
      let z = row0_from (ten rows) in
      outside z refl (false_from_ne_true _ (λ e. omega (arith, parts-inside z.rows_used z.names_used (length rows) (length names) e)))

  -- the names are asked row by row
  each-text : names_test (sheet rows names) ≡ every (row_texts schema_tests names) (tens_of (sheet rows names))
  unfolding names_test texts_pass row_texts
  each-text = sym (each-row is_text used_pairs names (tens_of (sheet rows names)))

  good-inside : parts_fit (ten rows).at0 (ten rows).len0 (length rows) (length names) ≡ true
      → row0_form (row0_from (ten rows)) && (rows_form (tens_of (sheet rows names))
      && (names_form (ten rows).len0 (tens_of (sheet rows names)) && behind rows names (row0_from (ten rows)) (head_of (tens_of (sheet rows names))))) ≡ bare_good (sheet rows names)
  unfolding used_parts row0_of parts_fit zeros_behind tens_of
  good-inside h = rw (good-whole (sheet rows names), h, each-text) (simp and_assoc)

  good-scanned : parts_fit (ten rows).at0 (ten rows).len0 (length rows) (length names) ≡ true
      → row0_form (row0_from (ten rows)) && ends (ten rows).len0 (behind rows names (row0_from (ten rows))) (scanned_sheet schema_tests (ten rows).len0 (tens_of (sheet rows names)))
      ≡ bare_good (sheet rows names)
  good-scanned h =
      let z = row0_from (ten rows) in
      ap (λ (b : Bool). row0_form z && b) (sheet-scanned z.names_used (behind rows names z) (no-head rows names z) (tens_of (sheet rows names))) ∙ good-inside h

  -- row 1 and the rows behind it
  all-rows : (z : Row0) (t : Ten) → z ≡ row0_from (ten rows) → parts_fit z.rows_used z.names_used (length rows) (length names) ≡ true
      → t ≡ ten (drop 10 rows) → t ∷ rest rows z ≡ tens_of (sheet rows names)
  unfolding tens_of row0_of
  all-rows z t e h f =
      let two = (parts-inside z.rows_used z.names_used (length rows) (length names) h).0 in
      rw f (sym (tens-two z.rows_used rows two) ∙ ap (λ (y : Row0). tens (y.rows_used - 1) (drop 10 rows)) e)

  -- of the results that the code's calls give, in the paper's order
  module _ (z : Row0) (e : z ≡ row0_from (ten rows)) (h : parts_fit z.rows_used z.names_used (length rows) (length names) ≡ true) where
    pub good-tests : (s : Scan) {f b n l r g k x v : Bool} {t : Ten} → f ≡ row0_form z → b ≡ zeros rows names z → n ≡ texts names z (t ∷ rest rows z) → l ≡ limits z → r ≡ root_test z
        → g ≡ nesting_test z → k ≡ context_test z.context s.head → x ≡ extension_test z s.head → v ≡ events_test z.events (tens (z.rows_used - 1) (drop 10 rows))
        → t ≡ ten (drop 10 rows) → Some s ≡ scanned_sheet schema_tests z.names_used (t ∷ rest rows z)
        → f && eqb s.end z.names_used && b && n && l && r && g && k && x && v ≡ bare_good (sheet rows names)
    good-tests s f b n l r g k x v t d =
        let ended = rw (all-rows z _ e h t, e) at d in
        let each = rw (all-rows z _ e h t) at n in
        rw (f, b, each, l, r, g, k, x, v, e) (simp and_assoc (simp and_assoc at (rw (← ended) at (good-scanned (rw e at h)))))

    -- where a row fails
    pub good-fails : {t : Ten} → t ≡ ten (drop 10 rows) → None ≡ scanned_sheet schema_tests z.names_used (t ∷ rest rows z) → false ≡ bare_good (sheet rows names)
    good-fails t d =
        let failed = rw (all-rows z _ e h t, e) at d in
        rw (← failed, and-false) at (good-scanned (rw e at h))

-- the tests in the code's order: what asks no row's form, and then what the pass over the rows found
in-order : (f e b n l r g k x v : Bool)
    → (f && (b && (l && (r && (g && v))))) && (e && (n && (k && x))) ≡ f && (e && (b && (n && (l && (r && (g && (k && (x && v))))))))
in-order false _ _ _ _ _ _ _ _ _ = refl
in-order true e false _ _ _ _ _ _ _ = sym (and-false e)
in-order true e true n false _ _ _ _ _ = sym (rw (and-false n) (and-false e))
in-order true e true n true false _ _ _ _ = sym (rw (and-false n) (and-false e))
in-order true e true n true true false _ _ _ = sym (rw (and-false n) (and-false e))
in-order true e true n true true true k x false = sym (rw (and-false x, and-false k, and-false n) (and-false e))
in-order true e true n true true true k x true = rw (and-true x) refl

pub apart : (f e b n l r g k x v : Bool) → f && b && l && r && g && v && e && n && k && x ≡ f && e && b && n && l && r && g && k && x && v
apart f e b n l r g k x v = simp and_assoc (simp and_assoc at (in-order f e b n l r g k x v))
