-- Laws of the pass over the rows of a schema sheet: it gives what `rows_form`, `names_form` and `head_of` ask, each over all rows, in one pass.
-- Assumes nothing.
use Rattle.std.specs.List.{fold, range_with_len}
use mathlib.Core.Path.{◌≡◌, refl, sym, ap, ◌∙◌}
use mathlib.Core.Bool.{Bool, true, false, ◌&&◌, ◌||◌, and_assoc, and-true}
use mathlib.Core.List.{List, [], ◌∷◌}
use Prim.Native.Nat.{ℕ, zero, suc, ◌+◌, ◌*◌}
use native.Mathlib.Omega.{arith}
use lib.Dec.{eqb, ltb}
use lib.ListN.{drop}
use lib.Seq.{drop-drop}
use borrow.Author.Tests.{eqb-true}
use Rattle.text.specs.Text.{every, between}
use Rattle.text.proofs.Laws.Tests.{bool_cases, four}
use Rattle.sheet.specs.Rows.{Ten, ten, tens}
use Rattle.xsd_types.specs.Good.{is_head, head_after, in_order, last_head, rows_form, names_form, head_of, events_test}
use Rattle.xsd_types.specs.State.{event_number_ok}
use Rattle.rows.specs.Scan.{scanned_sheet}
use Rattle.rows.proofs.Laws.Scan.{tags, in_order as in_order_by, last_head as last_head_by, ends, sheet-ends}
use Rattle.xsd_good.specs.Forms.{schema_tests}

-- the order and the last head by the record of tests are those of the definition
orders : (head : ℕ) (tags : List ℕ) → in_order_by schema_tests head tags ≡ in_order head tags
unfolding in_order_by in_order
orders head [] = refl
orders head (tag ∷ tags) = ap (λ (b : Bool). schema_tests.follows head tag && b) (orders (schema_tests.head_after head tag) tags)

heads : (head : ℕ) (tags : List ℕ) → last_head_by schema_tests head tags ≡ last_head head tags
unfolding last_head_by last_head
heads head [] = refl
heads head (tag ∷ tags) = heads (schema_tests.head_after head tag) tags

-- what answers the same for the namespace's tag and for 0, which is the definition's last head where there is none, answers the same for the last heads
head-first : (p : ℕ → Bool) → p 1 ≡ p 0 → (tags : List ℕ) → p (last_head 1 tags) ≡ p (last_head 0 tags)
unfolding last_head head_after
head-first p h [] = h
head-first p h (tag ∷ tags) = bool_cases (is_head tag) (λ e. rw e) (λ e. rw e (head-first p h tags))

-- the namespace's row is no head
no-head : (t : Ten) → eqb t.tag 1 && eqb t.a 0 && eqb t.b 0 && eqb t.c 0 ≡ true → head_after 0 t.tag ≡ 0
unfolding head_after is_head between
no-head t e = rw (eqb-true t.tag 1 (four (eqb t.tag 1) (eqb t.a 0) (eqb t.b 0) (eqb t.c 0) e).0)

same-behind : (w e i n r s : Bool) → (w ≡ true → r ≡ s) → (w && e && i) && (n && r) ≡ (w && e && i) && (n && s)
same-behind false e i n r s h = refl
same-behind true e i n r s h = rw (h refl)

pub sheet-scanned : (limit : ℕ) (p : ℕ → Bool) → p 1 ≡ p 0 → (ts : List Ten)
    → ends limit p (scanned_sheet schema_tests limit ts) ≡ rows_form ts && (names_form limit ts && p (head_of ts))
unfolding scanned_sheet rows_form names_form head_of last_head
sheet-scanned limit p h [] = refl
sheet-scanned limit p h (t ∷ ts) =
    let w = eqb t.tag 1 && eqb t.a 0 && eqb t.b 0 && eqb t.c 0 in
    let last : w ≡ true → p (last_head 1 (tags ts)) ≡ p (last_head (head_after 0 t.tag) (tags ts)) = λ e. rw (no-head t e) (head-first p h (tags ts)) in
    rw (sheet-ends schema_tests limit p t ts, orders 1 (tags ts), heads 1 (tags ts)) (same-behind w _ _ _ _ _ last)

-- the test of c of row k
abbrev pub c_passes : ℕ → List ℕ → ℕ → Bool
c_passes events rows k = eqb (ten (drop (10 * k) rows)).c 0 || ltb (ten (drop (10 * k) rows)).c events

-- of n rows from row i on, and of those before them
pub events-all : (events : ℕ) (rows : List ℕ) (before : Bool) (n i : ℕ)
    → fold (λ (b : Bool) (k : ℕ). b && c_passes events rows k) before (range_with_len i n) ≡ before && events_test events (tens n (drop (10 * i) rows))
unfolding events_test every event_number_ok tens
events-all events rows before zero i = sym (and-true before)
events-all events rows before (suc n) i =
    let here = c_passes events rows i in
    let at : 10 * (i + 1) ≡ 10 * i + 10 = omega arith in
    events-all events rows (before && here) n (i + 1) ∙ and_assoc before here _ ∙ ap (λ (b : Bool). before && (here && b)) (rw (at, drop-drop 10 (10 * i) rows))
