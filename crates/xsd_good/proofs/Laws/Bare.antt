-- A sheet with its count, and the same sheet with 0 there: the tests and places that the code takes from the one are those of the other. Assumes nothing.
use Rattle.std.specs.Prelude.{if◌then◌else◌}
use Prim.Native.Nat.{ℕ, zero, suc, ◌+◌, ◌-◌, ◌*◌, ◌<◌, ◌≤◌}
use mathlib.Core.Path.{◌≡◌, refl, sym, ap, ◌∙◌}
use mathlib.Core.Bool.{Bool, true, false, ◌&&◌}
use mathlib.Core.List.{List, ◌∷◌}
use native.Mathlib.Omega.{arith}
use lib.Dec.{eqb, leb}
use lib.ListN.{length, get_or, set, drop, length-set, length-drop}
use lib.Seq.{get_or-set_same, get_or-set_other, drop-set-add, drop-set-lt}
use Rattle.std.proofs.lemmas.Option.{none-some}
use borrow.Author.Tests.{eqb-true}
use Rattle.text.specs.Text.{Text, every, between, is_text}
use Rattle.text.proofs.Laws.Tests.{bool_cases, six}
use Rattle.sheet.specs.Rows.{Ten, ten, tens, text_at, unpack_row, all_zero}
use Rattle.sheet.specs.Calls.{sheet}
use Rattle.sheet.specs.Form.{words, rows_used_in, row_covers, end_of}
use Rattle.xsd_types.specs.Row0.{Row0, row0_from}
use Rattle.xsd_types.specs.Rows.{items_rows}
use Rattle.xsd_types.specs.Good.{used_pairs, row0_form, limits, root_test, nesting_test, context_test, extension_test, events_test, bare_good}
use Rattle.xsd_types.specs.Places.{rows_from}
use Rattle.xsd_types.specs.Count.{count_of, refused_rows, count_in, bare, with_count, state_of, good}
use Rattle.xsd_types.proofs.Laws.Count.{ten-count, drop-count, bare-words, good-bare}
use Rattle.xsd_refused.proofs.Laws.Finished.{end-room, count-finished, rows_from-count}
use Rattle.rows.specs.declared.scan.Scan.{Scan}
use Rattle.rows.specs.Lengths.{parts_fit}
use Rattle.rows.specs.Scan.{first_passes, scanned_sheet, row_texts}
use Rattle.rows.proofs.Laws.Room.{parts-inside}
use Rattle.rows.proofs.Laws.Tens.{tens-two}
use Rattle.xsd_good.specs.Forms.{schema_tests}
use Rattle.xsd_good.specs.Heads.{head_row}
use Rattle.xsd_good.specs.End.{finished_end, HeadIs, HeldState}
use Rattle.std.specs.Prelude.{None, Some}
use Rattle.xsd_good.proofs.Laws.Good.{zeros, texts, rest, outside, too-short, apart, good-tests, good-fails}
use Rattle.xsd_good.proofs.Laws.Held.{good-rows, held-good, end-held, root-held}

-- the rows with 0 for the count
abbrev bare_rows : List ℕ → List ℕ
bare_rows rows = set rows 17 0

-- ---- the tests

-- a number of row 1 but its a
row1-number : (rows : List ℕ) (k : ℕ) → (k ≡ 7 → ⊥) → get_or (drop 10 (bare_rows rows)) k 0 ≡ get_or (drop 10 rows) k 0
row1-number rows k h = ap (λ (l : List ℕ). get_or l k 0) (drop-set-add 10 rows 7 0) ∙ get_or-set_other (drop 10 rows) 7 k 0 0 h

pub row1-bare : (rows : List ℕ) (t : Ten) → 17 < length rows → t ≡ ten (drop 10 rows)
    → record { tag = t.tag; at0 = t.at0; len0 = t.len0; at1 = t.at1; len1 = t.len1; at2 = t.at2; len2 = t.len2; a = 0; b = t.b; c = t.c }
    ≡ ten (drop 10 (bare_rows rows))
unfolding ten
row1-bare rows t h e =
    let same : (k : ℕ) → (k ≡ 7 → ⊥) → get_or (drop 10 rows) k 0 ≡ get_or (drop 10 (bare_rows rows)) k 0 = λ k n. sym (row1-number rows k n) in
    let none : 0 ≡ get_or (drop 10 (bare_rows rows)) 7 0 = sym (ap (λ (l : List ℕ). get_or l 7 0) (drop-set-add 10 rows 7 0)
    ∙ get_or-set_same (drop 10 rows) 7 0 0 (omega (arith, length-drop 10 rows))) in
    rw e
    (λ i. record {
      tag = same 0 (λ n. omega arith) i;
      at0 = same 1 (λ n. omega arith) i;
      len0 = same 2 (λ n. omega arith) i;
      at1 = same 3 (λ n. omega arith) i;
      len1 = same 4 (λ n. omega arith) i;
      at2 = same 5 (λ n. omega arith) i;
      len2 = same 6 (λ n. omega arith) i;
      a = none i;
      b = same 8 (λ n. omega arith) i;
      c = same 9 (λ n. omega arith) i;
    })

pub events-bare : (events n : ℕ) (rows : List ℕ) → events_test events (tens n (drop 10 (bare_rows rows))) ≡ events_test events (tens n (drop 10 rows))
unfolding events_test tens every ten
events-bare events zero rows = refl
events-bare events (suc n) rows =
    let rest : drop 10 (drop 10 (bare_rows rows)) ≡ drop 10 (drop 10 rows) = ap (drop 10) (drop-set-add 10 rows 7 0) ∙ drop-set-lt 10 (drop 10 rows) 7 0 (omega arith) in
    rw (row1-number rows 9 (λ e. omega arith), rest)

row0-bare : (rows : List ℕ) {z : Row0} → z ≡ row0_from (ten rows) → z ≡ row0_from (ten (bare_rows rows))
row0-bare rows e = e ∙ ap row0_from (sym (ten-count rows 0))

-- of the namespace's row a is not asked when its texts are: the pass gives None where another row stands in its place
namespace-tag : (limit : ℕ) (t : Ten) (ts : List Ten) {s : Scan} → Some s ≡ scanned_sheet schema_tests limit (t ∷ ts) → t.tag ≡ 1
unfolding scanned_sheet first_passes
namespace-tag limit t ts {s} d =
    bool_cases (first_passes schema_tests limit t)
    (λ e. eqb-true t.tag 1 (six (eqb t.tag 1) (eqb t.a 0) (eqb t.b 0) (eqb t.c 0) (row_covers schema_tests.pairs 0 t) (leb (end_of 0 t) limit) e).0)
    (λ e. absurd (none-some s (sym (rw e at d))))

one-text : (names : Text) (t : Ten) → t.tag ≡ 1 → row_texts schema_tests names t ≡ is_text (text_at names t.at0 t.len0) && true
unfolding row_texts unpack_row used_pairs between every
one-text names t h = rw h refl

row1-texts : (rows names : List ℕ) (t : Ten) → t ≡ ten (drop 10 (bare_rows rows)) → t.tag ≡ 1 → row_texts schema_tests names (ten (drop 10 rows)) ≡ row_texts schema_tests names t
unfolding ten
row1-texts rows names t e h =
    let same : (k : ℕ) → (k ≡ 7 → ⊥) → get_or (drop 10 rows) k 0 ≡ get_or (drop 10 (bare_rows rows)) k 0 = λ k n. sym (row1-number rows k n) in
    one-text names (ten (drop 10 rows)) (same 0 (λ n. omega arith) ∙ ap (λ (y : Ten). y.tag) (sym e) ∙ h)
    ∙ (λ i. is_text (text_at names (same 1 (λ n. omega arith) i) (same 2 (λ n. omega arith) i)) && true)
    ∙ ap (λ (y : Ten). is_text (text_at names y.at0 y.len0) && true) (sym e)
    ∙ sym (one-text names t h)

module _ (rows names : List ℕ) where
  pub bare-short : length rows < 20 → bare_good (bare (sheet rows names)) ≡ false
  unfolding bare with_count
  bare-short h = too-short (bare_rows rows) names (omega (arith, length-set rows 17 0))

  module _ (z : Row0) (e : z ≡ row0_from (ten rows)) where
    fit-bare : {b : Bool} → parts_fit z.rows_used z.names_used (length rows) (length names) ≡ b → parts_fit z.rows_used z.names_used (length (bare_rows rows)) (length names) ≡ b
    fit-bare h = rw length-set h

    pub bare-outside : parts_fit z.rows_used z.names_used (length rows) (length names) ≡ false → bare_good (bare (sheet rows names)) ≡ false
    unfolding bare with_count
    bare-outside h = outside (bare_rows rows) names z (row0-bare rows e) (fit-bare h)

    module _ (h : parts_fit z.rows_used z.names_used (length rows) (length names) ≡ true) where
      -- the texts under the rows as they stand are those under the rows with 0 for the count
      same-texts : {s : Scan} {t : Ten} → t ≡ ten (drop 10 (bare_rows rows)) → Some s ≡ scanned_sheet schema_tests z.names_used (t ∷ rest rows z)
          → texts names z (tens (z.rows_used - 1) (drop 10 rows)) ≡ texts names z (t ∷ rest (bare_rows rows) z)
      unfolding every
      same-texts {t = t} d s =
          rw (
            tens-two z.rows_used rows (parts-inside z.rows_used z.names_used (length rows) (length names) h).0,
            row1-texts rows names t d (namespace-tag z.names_used t (rest rows z) s),
            drop-count rows 0 20 (omega arith),
          ) refl

      -- of the results that the code's calls give, in its order
      pub bare-tests : (s : Scan) {f b n l r g k x v : Bool} {t : Ten} → f ≡ row0_form z → b ≡ zeros rows names z → n ≡ texts names z (tens (z.rows_used - 1) (drop 10 rows))
          → l ≡ limits z → r ≡ root_test z
          → g ≡ nesting_test z → k ≡ context_test z.context s.head → x ≡ extension_test z s.head → v ≡ events_test z.events (tens (z.rows_used - 1) (drop 10 rows))
          → t ≡ ten (drop 10 (bare_rows rows)) → Some s ≡ scanned_sheet schema_tests z.names_used (t ∷ rest rows z)
          → f && b && l && r && g && v && eqb s.end z.names_used && n && k && x ≡ bare_good (bare (sheet rows names))
      unfolding bare with_count
      bare-tests s {f} {b} {n} {l} {r} {g} {k} {x} {v} ef eb en el er eg ek ex ev t d =
          let behind = drop-count rows 0 (10 * z.rows_used) (omega (arith, parts-inside z.rows_used z.names_used (length rows) (length names) h)) in
          apart f (eqb s.end z.names_used) b n l r g k x v
          ∙ good-tests (bare_rows rows) names z (row0-bare rows e) (fit-bare h) s ef (eb ∙ ap (λ (y : List ℕ). all_zero y && all_zero (drop z.names_used names)) (sym behind))
          (en ∙ same-texts t d) el er eg ek ex
          (ev ∙ sym (events-bare z.events (z.rows_used - 1) rows)) t (rw (← (drop-count rows 0 20 (omega arith))) at d)

      pub bare-fails : {t : Ten} → t ≡ ten (drop 10 (bare_rows rows)) → None ≡ scanned_sheet schema_tests z.names_used (t ∷ rest rows z) → false ≡ bare_good (bare (sheet rows names))
      unfolding bare with_count
      bare-fails t d = good-fails (bare_rows rows) names z (row0-bare rows e) (fit-bare h) t (rw (← (drop-count rows 0 20 (omega arith))) at d)

-- ---- the places

head_row-bare : (rows : List ℕ) (n : ℕ) → head_row (bare_rows rows) n ≡ head_row rows n
unfolding head_row
head_row-bare rows zero = refl
head_row-bare rows (suc n) = rw (get_or-set_other rows 17 (10 * n) 0 0 (λ e. omega arith), head_row-bare rows n)

pub head-is-bare : (rows : List ℕ) {head : ℕ} → HeadIs rows head → HeadIs (bare_rows rows) head
head-is-bare rows h l =
    let t = ten-count rows 0 in
    rw t (h (rw t at l) ∙ sym (head_row-bare rows (row0_from (ten rows)).rows_used))

finished_end-bare : (rows : List ℕ) (context used : ℕ) → finished_end (bare_rows rows) context used ≡ finished_end rows context used
unfolding finished_end
finished_end-bare rows context used = ap (λ (n : ℕ). if leb 2 context then n else used) (head_row-bare rows used)

module _ (rows names : List ℕ) (g : bare_good (bare (sheet rows names)) ≡ true) where
  pub bare-used : (20 ≤ length rows) × (10 * rows_used_in (ten rows) ≤ length rows)
  unfolding bare with_count
  bare-used = let u = good-rows (bare_rows rows) names g in (omega (arith, u.0, u.1, length-set rows 17 0), omega (arith, u.1, length-set rows 17 0, ap rows_used_in (ten-count rows 0)))

  module _ (w : words rows ≡ true) where
    pub bare-held : HeldState (state_of (sheet rows names)) (bare_rows rows) names
    unfolding bare with_count state_of
    bare-held = held-good (bare_rows rows) names g (bare-words (sheet rows names) w)

    -- where the finished items end
    pub bare-end : finished_end rows (row0_from (ten rows)).context (rows_used_in (ten rows)) ≡ 2 + length (items_rows (state_of (sheet rows names)).reader.schema.items)
    bare-end =
        let z = row0_from (ten rows) in
        sym (finished_end-bare rows z.context z.rows_used) ∙ end-held bare-held z (row0-bare rows refl)

    module _ {end : ℕ} (e : end ≡ 2 + length (items_rows (state_of (sheet rows names)).reader.schema.items)) where
      pub bare-room : (2 ≤ end) × (10 * end ≤ length rows)
      bare-room = let r = end-room (state_of (sheet rows names)) bare-held.packs bare-held.proper e in (r.0, omega (arith, r.1, length-set rows 17 0))

      -- and how many of them lowering refuses
      pub bare-count : refused_rows (rows_from rows names 2 end) ≡ count_of (state_of (sheet rows names))
      bare-count = ap refused_rows (sym (rows_from-count rows names 0 2 end (omega arith))) ∙ count-finished (state_of (sheet rows names)) bare-held.packs bare-held.proper e

-- of a good sheet: what row 0 says is the state's
module _ (rows names : List ℕ) (g : good (sheet rows names) ≡ true) (w : words rows ≡ true) where
  pub good-held : HeldState (state_of (sheet rows names)) (bare_rows rows) names
  good-held = bare-held rows names (good-bare (sheet rows names) g) w

  pub good-root : (z : Row0) → z ≡ row0_from (ten rows) → eqb z.root_seen 1 ≡ (state_of (sheet rows names)).reader.root_seen
  good-root z e = root-held good-held z (e ∙ ap row0_from (sym (ten-count rows 0)))

  pub good-end : (z : Row0) → z ≡ row0_from (ten rows) → finished_end rows z.context z.rows_used ≡ 2 + length (items_rows (state_of (sheet rows names)).reader.schema.items)
  good-end z e = ap (λ (y : Row0). finished_end rows y.context y.rows_used) e ∙ bare-end rows names (good-bare (sheet rows names) g) w

-- ---- the count among the tests

module _ (rows names : List ℕ) where
  pub good-not : bare_good (bare (sheet rows names)) ≡ false → good (sheet rows names) ≡ false
  unfolding good
  good-not e = rw e

  pub good-by-count : {a b : ℕ} → bare_good (bare (sheet rows names)) ≡ true → a ≡ get_or rows 17 0 → b ≡ count_of (state_of (sheet rows names)) → eqb a b ≡ good (sheet rows names)
  unfolding good count_in
  good-by-count g c d = rw (g, c, d)
