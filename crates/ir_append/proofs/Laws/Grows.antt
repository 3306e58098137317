-- Rows added one after the other are added together, and rows that have no room have none with more behind them. By the associativity of lists; what
-- needs more than there is needs it with more behind it too. One row: it has room, and then is added where it is stored behind the used parts, or not.
-- Assumes nothing.
use Prim.Native.Nat.{ℕ, ◌+◌, ◌*◌, ◌≤◌, ◌<◌}
use Rattle.std.specs.Prelude.{Option, MatchOption, Some, None}
use mathlib.Core.Path.{◌≡◌, refl, ap, ◌∙◌}
use mathlib.Core.Bool.{false, and-false}
use mathlib.Core.List.{List, [], ◌∷◌, ◌++◌, append_assoc, append-nil}
use native.Mathlib.Nat.{le_refl}
use native.Mathlib.Omega.{arith}
use lib.Dec.{leb}
use lib.ListN.{length, length-append}
use lib.Seq.{paste, length-paste}
use borrow.Author.Tests.{leb-true, le-leb, lt-leb}
use Rattle.text.specs.Text.{join}
use Rattle.std.proofs.lemmas.Bool.{false_from_ne_true, and_parts}
use Rattle.text.proofs.Laws.Tests.{and-true}
use Rattle.sheet.specs.Rows.{Row, names_of}
use Rattle.sheet.specs.Lengths.{fits}
use Rattle.sheet.proofs.Laws.Packs.{names_of-append}
use Rattle.rows.specs.Packing.{numbers_of}
use Rattle.rows.proofs.Laws.Write.{names-one, length-numbers_of}
use Rattle.rows.proofs.Laws.More.{holds_more}
use Rattle.ir_append.specs.declared.writer.GraphWriter.{GraphWriter}
use Rattle.ir_append.specs.Grows.{RowsAdded, Short, Grows}

-- no row added
pub grows_none : {w : GraphWriter} {u : Unit {0}} → Grows w [] w (Some u)
grows_none =
    record {
      same_rows = refl;
      same_names = refl;
      rows_length = refl;
      names_length = refl;
      added = record { holds = λ z rs h. rw (append-nil rs) h };
    }

module _ {w w₁ : GraphWriter} {xs : List Row} {u : Unit {0}} (g : Grows w xs w₁ (Some u)) (ys : List Row) (w₂ : GraphWriter) where
  then-added : (r : Option (Unit {0})) → MatchOption r (Short w₁ ys) (λ _. RowsAdded w₁ ys w₂) → MatchOption r (Short w (xs ++ ys)) (λ _. RowsAdded w (xs ++ ys) w₂)
  then-added (Some v) k =
      record { holds = λ z rs h. rw (← append_assoc rs xs ys) (k.holds z (rs ++ xs) (g.added.holds z rs h)) }
  then-added None k = record { short = λ z rs h. rw (← append_assoc rs xs ys, ← g.rows_length, ← g.names_length) (k.short z (rs ++ xs) (g.added.holds z rs h)) }

-- rows added behind others, or that those have no room
pub grows_then : {w w₁ w₂ : GraphWriter} {xs ys : List Row} {u : Unit {0}} {r : Option (Unit {0})} → Grows w xs w₁ (Some u) → Grows w₁ ys w₂ r → Grows w (xs ++ ys) w₂ r
grows_then {w₂ = w₂} {ys = ys} {r = r} g k =
    record {
      same_rows = k.same_rows ∙ g.same_rows;
      same_names = k.same_names ∙ g.same_names;
      rows_length = k.rows_length ∙ g.rows_length;
      names_length = k.names_length ∙ g.names_length;
      added = then-added g ys w₂ r k.added;
    }

-- what needs more than there is, needs it with more behind it too
fits-less : (r n r' n' lr ln : ℕ) → r ≤ r' → n ≤ n' → fits r n lr ln ≡ false → fits r' n' lr ln ≡ false
unfolding fits
fits-less r n r' n' lr ln h k e =
    false_from_ne_true (fits r' n' lr ln) (λ t.
    let both = and_parts (leb (10 * r') lr) (leb n' ln) t in
    let rows_fit = leb-true (10 * r') lr both.0 in
    let names_fit = leb-true n' ln both.1 in
    let fit = and-true (le-leb (10 * r) lr (omega arith)) (le-leb n ln (omega arith)) in
    let z : ◌≡◌ {A = ℕ} 0 1 = cc in
    omega arith)

-- too few numbers of rows, or bytes of names
few-rows : (r n lr ln : ℕ) → lr < 10 * r → fits r n lr ln ≡ false
unfolding fits
few-rows r n lr ln h = rw (lt-leb (10 * r) lr h)

few-names : (r n lr ln : ℕ) → ln < n → fits r n lr ln ≡ false
unfolding fits
few-names r n lr ln h = rw (lt-leb n ln h) (and-false (leb (10 * r) lr))

-- no room with more behind it
pub short-more : {w : GraphWriter} {xs : List Row} (ys : List Row) → Short w xs → Short w (xs ++ ys)
short-more {w} {xs} ys k =
    record {
      short = λ z rs h. fits-less (1 + length (rs ++ xs)) (length (names_of (rs ++ xs))) (1 + length (rs ++ (xs ++ ys))) (length (names_of (rs ++ (xs ++ ys))))
          (length w.rows.now) (length w.names.now) (simp length-append (omega arith)) (simp (names_of-append, length-append) (omega arith)) (k.short z rs h);
    }

pub grows-full : {w w₁ : GraphWriter} {xs : List Row} (ys : List Row) → Grows w xs w₁ None → Grows w (xs ++ ys) w₁ None
grows-full ys g =
    record {
      same_rows = g.same_rows;
      same_names = g.same_names;
      rows_length = g.rows_length;
      names_length = g.names_length;
      added = short-more ys g.added;
    }

module _ {w : GraphWriter} (r : Row) where
  -- one row that has no room among the rows
  pub short-rows : length w.rows.now < 10 * w.used.rows + 10 → Short w (r ∷ [])
  short-rows few =
      record {
        short = λ z rs h. fits-less (w.used.rows + 1) 0 (1 + length (rs ++ r ∷ [])) (length (names_of (rs ++ r ∷ []))) (length w.rows.now) (length w.names.now)
            (simp length-append (omega (arith, h.rows_used))) (omega arith) (few-rows (w.used.rows + 1) 0 (length w.rows.now) (length w.names.now) (omega arith));
      }

  -- one row whose texts have no room among the names
  pub short-names : length w.names.now < w.used.names + length (join r.texts) → Short w (r ∷ [])
  short-names few =
      record {
        short = λ z rs h. fits-less 0 (w.used.names + length (join r.texts)) (1 + length (rs ++ r ∷ [])) (length (names_of (rs ++ r ∷ []))) (length w.rows.now) (length w.names.now)
            (omega arith) (rw (names-one rs r, length-append, h.names_used) (le_refl _))
            (few-names 0 (w.used.names + length (join r.texts)) (length w.rows.now) (length w.names.now) few);
      }

  -- one row stored with its texts
  pub grown-one : {w' : GraphWriter} {u : Unit {0}} {end : ℕ} → 10 * w.used.rows + 10 ≤ length w.rows.now → w.used.names + length (join r.texts) ≤ length w.names.now
      → w'.rows.ghost_name ≡ w.rows.ghost_name → w'.names.ghost_name ≡ w.names.ghost_name
      → w'.rows.now ≡ paste w.rows.now (10 * w.used.rows) (numbers_of w.used.names r) 10 → w'.names.now ≡ paste w.names.now w.used.names (join r.texts) (length (join r.texts))
      → w'.used ≡ record { rows = w.used.rows + 1; names = end } → end ≡ w.used.names + length (join r.texts) → Grows w (r ∷ []) w' (Some u)
  grown-one {w'} {end = end} rows_room names_room i j e f m n =
      let rows_same : length w'.rows.now ≡ length w.rows.now = ap length e
      ∙ length-paste w.rows.now (10 * w.used.rows) (numbers_of w.used.names r) 10 rows_room (omega (arith, length-numbers_of w.used.names r)) in
      let names_same : length w'.names.now ≡ length w.names.now = ap length f
      ∙ length-paste w.names.now w.used.names (join r.texts) (length (join r.texts)) names_room (le_refl (length (join r.texts))) in
      record {
        same_rows = i;
        same_names = j;
        rows_length = rows_same;
        names_length = names_same;
        added = record { holds = λ z rs h. rw m (holds_more r end h (omega arith) names_room e f n) };
      }
