-- What a call that is accepted leaves is in the form, and a second call on it, where the target has room, leaves the same: its rows are those that were kept, all of which
-- are kept again. Assumes nothing.
use Prim.Native.Nat.{ℕ, ◌+◌, ◌*◌, ◌≤◌}
use mathlib.Core.Path.{◌≡◌, refl, sym, ap, ◌∙◌}
use mathlib.Core.Bool.{true, false≢true}
use mathlib.Core.List.{List, ◌∷◌, map}
use native.Mathlib.Omega.{arith}
use lib.Dec.{leb}
use lib.ListN.{length}
use borrow.Author.Tests.{leb-true, le-leb}
use Rattle.std.proofs.lemmas.Bool.{and_parts}
use Rattle.text.proofs.Laws.Tests.{and-true, and-true-right}
use Rattle.sheet.specs.Rows.{Row, Sheet, numbers, pack, names_of}
use Rattle.sheet.specs.Form.{row0_of, rows_used_of, names_used_of}
use Rattle.sheet.specs.Lengths.{sheet_lengths, fits, Answer}
use Rattle.sheet.specs.Calls.{answered}
use Rattle.sheet.specs.Returned.{accepted}
use Rattle.ir_types.specs.Form.{graph_form}
use Rattle.ir_types.specs.Distinct.{distinct_texts}
use Rattle.ir_types.specs.Row0.{graph_row0_ten}
use Rattle.ir_types.proofs.Laws.RowsForm.{Allowed, row0_for, rows_sheet, rows-row0, rows-back, rows-used, names-used, rows-length, names-length, rows-form, rows-allowed}
use Rattle.ir_reduce.specs.Groups.{Parted, parted, rows_of_parted, type_name}
use Rattle.ir_reduce.specs.Reach.{Reduced}
use Rattle.ir_reduce.specs.Call.{rows_in, graph_in, in_form, row0_of_rows as graph_row0, graph_sheet_of, lengths_fit, graph_rows_fit, Reduction}
use Rattle.ir_reduce.specs.Twice.{used_rows, used_names, SameUsed}
use Rattle.ir_reduce.proofs.Laws.Reach.{reduced-again}
use Rattle.ir_reduce.proofs.Laws.Once.{reduction-once}
use Rattle.ir_reduce.proofs.Laws.Call.{same_graph}
use Rattle.ir_reduce.proofs.Laws.Parted.{reduced-parted}
use Rattle.ir_reduce.proofs.Laws.KeptForm.{allowed-kept, distinct-kept}

-- what an accepted call says of itself
record Fitting (x target : Sheet) (a : Answer) (y : Sheet) : Type 0 where
  lengths : lengths_fit x target ≡ true
  form : in_form x ≡ true
  graph : Parted
  reduced : Reduced (graph_in x) graph
  room : graph_rows_fit (rows_of_parted graph) target ≡ true
  answer : a ≡ answered accepted (1 + length (rows_of_parted graph))
  sheet : y ≡ graph_sheet_of (rows_of_parted graph) target

fitting-only : {x target y : Sheet} {a : Answer} → Reduction x target a y → a.number ≡ 0 → Fitting x target a y
fitting-only (Reduction.bad_lengths l) z = absurd (omega arith)
fitting-only (Reduction.no_form l f) z = absurd (omega arith)
fitting-only (Reduction.tight l f q w t) z = absurd (omega arith)
fitting-only (Reduction.fitting l f q w t) z = record { lengths = l; form = f; graph = q; reduced = w; room = t; answer = refl; sheet = refl }

-- ---- the sheet of rows
graph-sheet : (rs : List Row) (target : Sheet) → graph_sheet_of rs target ≡ rows_sheet rs (length target.rows) (length target.names)
unfolding graph_sheet_of graph_row0
graph-sheet rs target = refl

module _ (rs : List Row) (target : Sheet) where
  graph-rows : Allowed rs → rows_in (graph_sheet_of rs target) ≡ rs
  unfolding rows_in
  graph-rows w = rw (graph-sheet rs target) (rows-back rs (length target.rows) (length target.names) w.uses)

  graph-row0 : row0_of (graph_sheet_of rs target) ≡ graph_row0_ten (row0_for rs)
  graph-row0 = rw (graph-sheet rs target) (rows-row0 rs (length target.rows) (length target.names))

  graph-used-rows : used_rows (graph_sheet_of rs target) ≡ numbers (graph_row0_ten (row0_for rs) ∷ pack 0 rs)
  unfolding used_rows
  graph-used-rows = rw (graph-row0, graph-sheet rs target) (rows-used rs (length target.rows) (length target.names))

  graph-used-names : used_names (graph_sheet_of rs target) ≡ names_of rs
  unfolding used_names
  graph-used-names = rw (graph-row0, graph-sheet rs target) (names-used rs (length target.rows) (length target.names))

  module _ (room : graph_rows_fit rs target ≡ true) where
    graph-rows-length : length (graph_sheet_of rs target).rows ≡ length target.rows
    unfolding graph_rows_fit
    graph-rows-length = rw (graph-sheet rs target) (rows-length rs (length target.rows) (length target.names) room)

    graph-names-length : length (graph_sheet_of rs target).names ≡ length target.names
    unfolding graph_rows_fit
    graph-names-length = rw (graph-sheet rs target) (names-length rs (length target.rows) (length target.names) room)

    graph-formed : Allowed rs → graph_form (graph_sheet_of rs target) ≡ true
    unfolding graph_rows_fit
    graph-formed w = rw (graph-sheet rs target) (rows-form rs (length target.rows) (length target.names) room w)

-- ---- what is kept of a sheet in the form
module _ (x target : Sheet) (q : Parted) (form : in_form x ≡ true) (w : Reduced (graph_in x) q) where
  sheet-formed : (graph_form x ≡ true) × (distinct_texts (map type_name (graph_in x).types) ≡ true)
  unfolding in_form
  sheet-formed = and_parts (graph_form x) (distinct_texts (map type_name (graph_in x).types)) form

  kept-allowed : Allowed (rows_of_parted q)
  unfolding graph_in rows_in
  kept-allowed = allowed-kept (rows-allowed x sheet-formed.0) w

  rows-again : rows_in (graph_sheet_of (rows_of_parted q) target) ≡ rows_of_parted q
  rows-again = graph-rows (rows_of_parted q) target kept-allowed

  graph-again : graph_in (graph_sheet_of (rows_of_parted q) target) ≡ q
  unfolding graph_in
  graph-again = ap parted rows-again ∙ reduced-parted (rows_in x) w

  form-again : graph_rows_fit (rows_of_parted q) target ≡ true → in_form (graph_sheet_of (rows_of_parted q) target) ≡ true
  unfolding in_form
  form-again room = and-true (graph-formed (rows_of_parted q) target room kept-allowed) (rw graph-again (distinct-kept w.types sheet-formed.1))

-- a reduced sheet is in the form
pub reduced-form : {x target y : Sheet} {a : Answer} → Reduction x target a y → a.number ≡ 0 → in_form y ≡ true
reduced-form {x} {target} w z = let t = fitting-only w z in rw t.sheet (form-again x target t.graph t.form t.reduced t.room)

-- 21 is for no sheet in the form
pub no-twenty_one : {x target y : Sheet} {a : Answer} → Reduction x target a y → in_form x ≡ true → a.number ≡ 21 → ⊥
no-twenty_one (Reduction.bad_lengths l) f z = omega arith
no-twenty_one (Reduction.no_form l g) f z = false≢true (sym g ∙ f)
no-twenty_one (Reduction.tight l g q w t) f z = omega arith
no-twenty_one (Reduction.fitting l g q w t) f z = omega arith

-- ---- once more
-- the room for what is used, which a target of at least the same lengths has
fits-more : (r n : ℕ) {l k l' k' : ℕ} → fits r n l k ≡ true → l ≤ l' → k ≤ k' → fits r n l' k' ≡ true
unfolding fits
fits-more r n {l} {k} {l'} {k'} h a b =
    let w = and_parts (leb (10 * r) l) (leb n k) h in
    and-true (le-leb (10 * r) l' (omega (arith, leb-true (10 * r) l w.0))) (le-leb n k' (omega (arith, leb-true n k w.1)))

pub room-again : {x target y : Sheet} {a : Answer} (r n : ℕ) → Reduction x target a y → a.number ≡ 0 → length target.rows ≤ r → length target.names ≤ n
    → fits (rows_used_of y) (names_used_of y) r n ≡ true
unfolding graph_rows_fit
room-again {x} {target} r n w z l k =
    let t = fitting-only w z in
    let rs = rows_of_parted t.graph in
    rw (t.sheet, graph-row0 rs target) (fits-more (1 + length rs) (length (names_of rs)) t.room l k)

-- the second call, where it has room
module _ (x target again : Sheet) (q : Parted) (form : in_form x ≡ true) (w : Reduced (graph_in x) q) (lengths : lengths_fit x target ≡ true) (room : graph_rows_fit (rows_of_parted q) target ≡ true)
    (long : sheet_lengths (length again.rows) (length again.names) ≡ true) (more : graph_rows_fit (rows_of_parted q) again ≡ true) where
  abbrev left : Sheet → Sheet
  left y = graph_sheet_of (rows_of_parted q) y

  lengths-again : lengths_fit (left target) again ≡ true
  unfolding lengths_fit
  lengths-again =
      let first = and-true-right (sheet_lengths (length x.rows) (length x.names)) (sheet_lengths (length target.rows) (length target.names)) lengths in
      rw (graph-rows-length (rows_of_parted q) target room, graph-names-length (rows_of_parted q) target room) (and-true first long)

  second : Reduction (left target) again (answered accepted (1 + length (rows_of_parted q))) (left again)
  second = Reduction.fitting lengths-again (form-again x target q form w room) q (rw (graph-again x target q form w) (reduced-again w)) more

  same-used : SameUsed (left target) (left again)
  same-used =
      let rs = rows_of_parted q in
      record {
        rows = graph-used-rows rs again ∙ sym (graph-used-rows rs target);
        names = graph-used-names rs again ∙ sym (graph-used-names rs target);
        whole = λ l k. same_graph target.rows target.names again.rows again.names rs
            (sym (graph-rows-length rs again more) ∙ l ∙ graph-rows-length rs target room) (sym (graph-names-length rs again more) ∙ k ∙ graph-names-length rs target room);
      }

-- "reducing twice equals reducing once", on sheets
pub sheet-twice : {x target y again z : Sheet} {a b : Answer} → Reduction x target a y → a.number ≡ 0 → sheet_lengths (length again.rows) (length again.names) ≡ true
    → fits (rows_used_of y) (names_used_of y) (length again.rows) (length again.names) ≡ true → Reduction y again b z → (b ≡ a) × SameUsed y z
unfolding graph_rows_fit
sheet-twice {x} {target} {y} {again} {z} {a} {b} v e long room u =
    let t = fitting-only v e in
    let more : graph_rows_fit (rows_of_parted t.graph) again ≡ true = rw (t.sheet, graph-row0 (rows_of_parted t.graph) target) at room in
    let once = reduction-once (rw t.sheet at u) (second x target again t.graph t.form t.reduced t.lengths t.room long more) in
    (once.0 ∙ sym t.answer, rw (t.sheet, once.1) (same-used x target again t.graph t.form t.reduced t.lengths t.room long more))
