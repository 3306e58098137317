-- The steps of the call put together: the marks are those of what chains reach, so the rows that are kept are those of the reduced graph, and they are written into
-- a target of zeros or have no room. Assumes nothing.
use Rattle.std.specs.Prelude.{Some, None}
use mathlib.Core.Path.{◌≡◌, refl, sym, ap, ◌∙◌}
use mathlib.Core.Bool.{Bool, true, false, ◌&&◌, and-false}
use mathlib.Core.List.{List, [], ◌∷◌}
use Prim.Native.Nat.{ℕ, ◌+◌, ◌-◌, ◌%◌}
use native.Mathlib.Omega.{arith}
use lib.Dec.{eqb, leb}
use lib.ListN.{length, replicate, length-replicate}
use borrow.Author.Tests.{eqb-true, eqb-false, leb-true}
use Rattle.text.specs.Text.{between}
use Rattle.std.proofs.lemmas.Bool.{and_parts, false_from_ne_true}
use Rattle.text.proofs.Laws.Tests.{and-true-left, and-true-right, and-true}
use Rattle.sheet.specs.Rows.{Row, Sheet, bit}
use Rattle.sheet.specs.Lengths.{sheet_lengths, Answer}
use Rattle.sheet.specs.Calls.{sheet, answered}
use Rattle.sheet.specs.Returned.{accepted, no_room_in_graph}
use Rattle.ir_types.specs.Form.{is_type_tag, count, graph_form}
use Rattle.ir_types.specs.Distinct.{distinct_texts}
use Rattle.ir_append.specs.declared.writer.GraphWriter.{GraphWriter}
use Rattle.ir_append.specs.Grows.{Grows}
use Rattle.ir_append.specs.Whole.{ClearedBuffers, Begins, Closes}
use Rattle.ir_append.proofs.Laws.Whole.{whole-short, whole-fits, whole-place, whole-sheet}
use Rattle.ir_reduce.specs.Groups.{Parted, parted, rows_of_parted}
use Rattle.ir_reduce.specs.Reach.{Reduced}
use Rattle.ir_reduce.specs.Call.{graph_in, in_form, row0_of_rows, graph_sheet_of, lengths_fit, graph_rows_fit, emptied, Reduction}
use Rattle.ir_reduce.specs.Places.{row_at, rows_by_place, kept_rows}
use Rattle.ir_reduce.specs.Index.{head_places, head_names}
use Rattle.ir_reduce.specs.Marks.{head_flags}
use Rattle.ir_reduce.specs.Steps.{Graph, MarksDone, Written, Placed}
use Rattle.ir_reduce.proofs.Laws.Chains.{Flagged}
use Rattle.ir_reduce.proofs.Laws.Marked.{reduced_graph, reduced-is, rows-reduced}
use Rattle.ir_reduce.proofs.Laws.Kept.{tagged}
use Rattle.ir_reduce.proofs.Laws.Marks.{flags-length, flag_at}
use Rattle.ir_reduce.proofs.Laws.Asked.{head-is, targets-are, type-names}
use Rattle.ir_reduce.proofs.Laws.Facts.{at_least, rows-ordered, graph_is}

-- a target that was cleared
pub zeros-self : {xs : List ℕ} (n : ℕ) → xs ≡ replicate n 0 → xs ≡ replicate (length xs) 0
zeros-self {xs} n e = let same : length xs ≡ n = ap length e ∙ length-replicate {A = ℕ} n 0 in rw same e

pub cleared_by : (x : Sheet) (rows names : List ℕ) {rows' names' : List ℕ} → lengths_fit x (sheet rows names) ≡ true → rows' ≡ replicate (length rows) 0 → names' ≡ replicate (length names) 0
    → ClearedBuffers rows' names'
unfolding lengths_fit sheet_lengths
cleared_by x rows names {rows'} {names'} l e f =
    let n = length rows in
    let k = length names in
    let rl : length rows' ≡ n = ap length e ∙ length-replicate {A = ℕ} n 0 in
    let nl : length names' ≡ k = ap length f ∙ length-replicate {A = ℕ} k 0 in
    let t = and-true-right (sheet_lengths (length x.rows) (length x.names)) (sheet_lengths n k) l in
    let a = eqb (n % 10) 0 in let b = leb 20 n in let c = leb n 40960 in let d = leb k 65536 in
    let u = and-true-left (a && b && c) d t in
    record {
      rows_zero = zeros-self n e;
      names_zero = zeros-self k f;
      some_rows = omega (arith, leb-true 20 n (and-true-right a b (and-true-left (a && b) c u)));
      few_rows = omega (arith, leb-true n 40960 (and-true-right (a && b) c u));
      few_names = omega (arith, leb-true k 65536 (and-true-right (a && b && c) d t));
    }

-- the two counts of row 0
one_tag : (x : ℕ) → between 2 2 x ≡ eqb x 2
unfolding between
one_tag x = by-test (eqb x 2) refl
  where
    by-test : (b : Bool) → eqb x 2 ≡ b → leb 2 x && leb x 2 ≡ b
    by-test true e = rw (eqb-true x 2 e)
    by-test false e = false_from_ne_true _ (λ h. let both = and_parts (leb 2 x) (leb x 2) h in omega (arith, eqb-false x 2 e, leb-true 2 x both.0, leb-true x 2 both.1))

count_same : (P Q : ℕ → Bool) → ((x : ℕ) → P x ≡ Q x) → (xs : List ℕ) → count P xs ≡ count Q xs
unfolding count
count_same P Q h [] = refl
count_same P Q h (x ∷ xs) = rw (h x, count_same P Q h xs)

type-tag : (x : ℕ) → between 3 8 x ≡ is_type_tag x
unfolding is_type_tag
type-tag x = refl

-- what was written, or that it has no room
module _ {rows names : List ℕ} (c : ClearedBuffers rows names) {w w₁ : GraphWriter} (b : Begins rows names w) {rs : List Row} where
  pub written-full : Grows w rs w₁ None → graph_rows_fit rs (sheet rows names) ≡ false
  unfolding graph_rows_fit
  written-full g = whole-short c b g

  pub written-to : {u : Unit {0}} {roots types place : ℕ} {w₂ : GraphWriter} {rows₂ names₂ : List ℕ} → Grows w rs w₁ (Some u)
      → roots ≡ count (between 2 2) (tagged rs) → types ≡ count (between 3 8) (tagged rs)
      → Closes w₁ roots types w₂ place → (w.rows.ghost_name ≡ w₂.rows.ghost_name → rows₂ ≡ w₂.rows.now) → (w.names.ghost_name ≡ w₂.names.ghost_name → names₂ ≡ w₂.names.now)
      → Written rs rows names rows₂ names₂ place
  unfolding graph_rows_fit graph_sheet_of row0_of_rows
  written-to g r t close i j =
      let roots = r ∙ count_same (between 2 2) (λ x. eqb x 2) one_tag (tagged rs) in
      let types = t ∙ count_same (between 3 8) is_type_tag type-tag (tagged rs) in
      record {
        fits = whole-fits c b g;
        place_is = whole-place c b g close;
        graph = rw (i (sym (close.same_rows ∙ g.same_rows)), j (sym (close.same_names ∙ g.same_names)), ← roots, ← types) (whole-sheet c b g close);
      }

pub record ReducedRows (p : Parted) (rs : List Row) : Type 0 where
  pub graph : Parted
  pub reduced : Reduced p graph
  pub rows_are : rs ≡ rows_of_parted graph

placed-reduction : {x target : Sheet} {p : Parted} {rs : List Row} {y : Sheet} {a : Answer} → graph_in x ≡ p → in_form x ≡ true → lengths_fit x target ≡ true → ReducedRows p rs
    → Placed rs target a y → Reduction x target a y
placed-reduction {x} {target} e f l w (Placed.tight h) = Reduction.tight l f w.graph (rw e w.reduced) (rw w.rows_are at h)
placed-reduction {x} {target} e f l w (Placed.fitting h) = rw w.rows_are (Reduction.fitting l f w.graph (rw e w.reduced) (rw w.rows_are at h))

-- ---- what is known, put together
module _ {rows names : List ℕ} {end : ℕ} (g : Graph rows names end) (distinct : distinct_texts (head_names rows names (head_places rows end)) ≡ true) where
  flagged : Flagged (row_at rows names) end (head_flags rows end)
  flagged = record { long = flags-length rows 0 end; flag = λ i l. flag_at rows end i l ∙ ap bit (sym (head-is rows names i)) }

  whole : 1 + (end - 1) ≡ end
  whole = omega (arith, at_least g)

  in-form : in_form (sheet rows names) ≡ true
  unfolding in_form
  in-form = and-true g.form (rw (graph_is g, type-names rows names (end - 1) 1 end whole) distinct)

  reduced-of : {marks : List ℕ} → MarksDone rows names end marks → ReducedRows (parted (rows_by_place (row_at rows names) 1 (end - 1))) (kept_rows (row_at rows names) marks true 1 (end - 1))
  reduced-of {marks} d =
      let targets = targets-are rows names d.to end d.targets distinct in
      record {
        graph = reduced_graph (row_at rows names) (end - 1) end whole (head_flags rows end) d.to marks d.queue d.count (rows-ordered g) flagged targets d.marking d.done d.first;
        reduced = reduced-is (row_at rows names) (end - 1) end whole (head_flags rows end) d.to marks d.queue d.count (rows-ordered g) flagged targets d.marking d.done d.first;
        rows_are = rows-reduced (row_at rows names) (end - 1) end whole (head_flags rows end) d.to marks d.queue d.count (rows-ordered g) flagged targets d.marking d.done d.first;
      }

  pub reduction-of : {marks : List ℕ} {target y : Sheet} {a : Answer} → MarksDone rows names end marks → lengths_fit (sheet rows names) target ≡ true
      → Placed (kept_rows (row_at rows names) marks true 1 (end - 1)) target a y → Reduction (sheet rows names) target a y
  reduction-of d l p = placed-reduction (graph_is g) in-form l (reduced-of d) p

-- "two types of one name"
pub repeated-form : {rows names : List ℕ} {end : ℕ} → Graph rows names end → distinct_texts (head_names rows names (head_places rows end)) ≡ false → in_form (sheet rows names) ≡ false
unfolding in_form
repeated-form {rows} {names} {end} g h =
    let whole : 1 + (end - 1) ≡ end = omega (arith, at_least g) in
    rw (graph_is g, type-names rows names (end - 1) 1 end whole, h) (and-false (graph_form (sheet rows names)))

-- the answer and the target, by what was written into a target that was cleared before
same-lengths : (rows names rows₁ names₁ : List ℕ) (rs : List Row) → length rows₁ ≡ length rows → length names₁ ≡ length names
    → graph_rows_fit rs (sheet rows₁ names₁) ≡ graph_rows_fit rs (sheet rows names)
unfolding graph_rows_fit
same-lengths rows names rows₁ names₁ rs e f = rw (e, f)

pub same_graph : (rows names rows₁ names₁ : List ℕ) (rs : List Row) → length rows₁ ≡ length rows → length names₁ ≡ length names
    → graph_sheet_of rs (sheet rows₁ names₁) ≡ graph_sheet_of rs (sheet rows names)
unfolding graph_sheet_of
same_graph rows names rows₁ names₁ rs e f = rw (e, f)

emptied-is : (rows names rows₂ names₂ : List ℕ) → rows₂ ≡ replicate (length rows) 0 → names₂ ≡ replicate (length names) 0 → sheet rows₂ names₂ ≡ emptied (sheet rows names)
unfolding emptied
emptied-is rows names rows₂ names₂ e f = λ i. record { rows = e i; names = f i }

module _ (rows names rows₁ names₁ : List ℕ) (rs : List Row) {a : Answer} {rows₂ names₂ : List ℕ} where
  pub placed-fitting : {place : ℕ} → Written rs rows₁ names₁ rows₂ names₂ place → a ≡ answered accepted place → length rows₁ ≡ length rows → length names₁ ≡ length names
      → Placed rs (sheet rows names) a (sheet rows₂ names₂)
  placed-fitting w h e f =
      rw (h, w.place_is, w.graph ∙ same_graph rows names rows₁ names₁ rs e f) (Placed.fitting (sym (same-lengths rows names rows₁ names₁ rs e f) ∙ w.fits))

  pub placed-tight : {n m : ℕ} → graph_rows_fit rs (sheet rows₁ names₁) ≡ false → rows₂ ≡ replicate n 0 → names₂ ≡ replicate m 0 → a ≡ answered no_room_in_graph 0
      → length rows₁ ≡ length rows → length names₁ ≡ length names → n ≡ length rows → m ≡ length names → Placed rs (sheet rows names) a (sheet rows₂ names₂)
  placed-tight w k l h e f i j =
      let empty = emptied-is rows names rows₂ names₂ (rw i at k) (rw j at l) in
      rw (h, empty) (Placed.tight (sym (same-lengths rows names rows₁ names₁ rs e f) ∙ w))
