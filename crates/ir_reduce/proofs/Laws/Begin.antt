-- The marks and the queue before anything is marked: zeros hold no mark, and row 1 is marked first. Assumes nothing.
use mathlib.Core.Path.{◌≡◌, refl, sym}
use mathlib.Core.Bool.{Bool, true, false, ◌&&◌}
use mathlib.Core.List.{List}
use Prim.Native.Nat.{ℕ, zero, suc, ◌%◌, ◌≤◌, ◌<◌}
use native.Mathlib.Omega.{arith}
use lib.Dec.{eqb, leb}
use borrow.Author.Tests.{eqb-true, eqb-false, leb-true, leb-false}
use lib.ListN.{length, get_or, replicate, length-replicate}
use Rattle.text.proofs.Laws.Tests.{and-true-left, and-true-right}
use Rattle.sheet.specs.Lengths.{sheet_lengths}
use Rattle.ir_types.specs.Distinct.{distinct_texts}
use Rattle.ir_reduce.specs.Index.{head_places, head_names, TargetsPut}
use Rattle.ir_reduce.specs.Marks.{head_flags, ReachedPlace, marked_count, Marked, Marking, Room, AllDone}
use Rattle.ir_reduce.specs.Steps.{Graph, MarksDone}
use Rattle.ir_reduce.proofs.Laws.Marks.{flags-length, marking-more}
use Rattle.ir_reduce.proofs.Laws.Facts.{at_least, rows_inside_lem}
use Rattle.ir_reduce.proofs.Laws.Asked.{targets-are}
use Rattle.ir_types.proofs.Laws.References.{get_d-zeros}

no_ones : (n : ℕ) → marked_count (replicate n 0) ≡ 0
unfolding marked_count
no_ones zero = refl
no_ones (suc n) = no_ones n

pub targets-start : (rows names : List ℕ) (end n : ℕ) → TargetsPut rows names end 1 (replicate n 0)
targets-start rows names end n = record { first = get_d-zeros n 0; put = λ p a b. absurd (let no : ⊥ = omega arith in no); rest = λ p a. get_d-zeros n p }

marking-start : (tags to : List ℕ) (n k : ℕ) → length tags ≤ n → n ≤ k → Marking tags to (replicate n 0) (replicate k 0) 0
marking-start tags to n k h l =
    record {
      each = λ q m. absurd (let no : ⊥ = omega (arith, get_d-zeros n q) in no);
      queued = λ q m. absurd (let no : ⊥ = omega (arith, get_d-zeros n q) in no);
      held = λ i m. absurd (let no : ⊥ = omega arith in no);
      count = sym (no_ones n);
      long = rw (length-replicate {A = ℕ} n 0) h;
      room = rw (length-replicate {A = ℕ} n 0, length-replicate {A = ℕ} k 0) l;
    }

-- row 1 is marked
pub marking-first : {rows names : List ℕ} {end : ℕ} (g : Graph rows names end) (to : List ℕ) {marks queue : List ℕ} {n : ℕ} → Marked (replicate 4096 0) (replicate 4096 0) 0 1 marks queue n
    → Marking (head_flags rows end) to marks queue n
marking-first {rows} {names} {end} g to m =
    let few : length (head_flags rows end) ≤ 4096 = rw (flags-length rows 0 end) (omega (arith, rows_inside_lem g, g.few)) in
    marking-more m (marking-start (head_flags rows end) to 4096 4096 few (omega arith)) ReachedPlace.start (rw (flags-length rows 0 end) (omega (arith, at_least g)))

pub first-marked : {marks queue : List ℕ} {n : ℕ} → Marked (replicate 4096 0) (replicate 4096 0) 0 1 marks queue n → 0 < get_or marks 1 0
first-marked m = rw m.flag (omega arith)

targets-below : {rows names to : List ℕ} {end : ℕ} → Graph rows names end → distinct_texts (head_names rows names (head_places rows end)) ≡ true
    → TargetsPut rows names end end to → (i : ℕ) → get_or to i 0 < end
targets-below {rows} {names} {to} {end} g distinct put i = by_place (eqb (get_or to i 0) 0) refl (eqb i 0) refl (leb end i) refl
  where
    by_place : (a : Bool) → eqb (get_or to i 0) 0 ≡ a → (b : Bool) → eqb i 0 ≡ b → (c : Bool) → leb end i ≡ c → get_or to i 0 < end
    by_place true e b f c h = omega (arith, eqb-true (get_or to i 0) 0 e, at_least g)
    by_place false e true f c h = absurd (eqb-false (get_or to i 0) 0 e (rw (eqb-true i 0 f) put.first))
    by_place false e false f true h = absurd (eqb-false (get_or to i 0) 0 e (put.rest i (leb-true end i h)))
    by_place false e false f false h = ((targets-are rows names to end put distinct).hit i (omega (arith, eqb-false i 0 f)) (omega (arith, leb-false end i h))
        (omega (arith, eqb-false (get_or to i 0) 0 e))).0

pub room-first : {rows names to : List ℕ} {end : ℕ} (g : Graph rows names end) → distinct_texts (head_names rows names (head_places rows end)) ≡ true
    → TargetsPut rows names end end to → length to ≡ 4096
    → {marks queue : List ℕ} {n : ℕ} → Marked (replicate 4096 0) (replicate 4096 0) 0 1 marks queue n → length marks ≡ 4096 → Room (head_flags rows end) to marks queue n
room-first {rows} {names} {to} {end} g d put l m k =
    let w = marking-first g to m in
    record {
      tos = rw (flags-length rows 0 end) (omega (arith, rows_inside_lem g, g.few));
      targets = λ i. rw (flags-length rows 0 end) (targets-below g d put i);
      count = w.count;
      long = w.long;
      room = w.room;
      few = omega arith;
    }

pub marks-done : {rows names to : List ℕ} {end : ℕ} (g : Graph rows names end) → TargetsPut rows names end end to → {m q m' q' : List ℕ} {n n' : ℕ}
    → Marked (replicate 4096 0) (replicate 4096 0) 0 1 m q n
    → (Marking (head_flags rows end) to m q n → AllDone (head_flags rows end) to m q n m' q' n' n') → MarksDone rows names end m'
marks-done {to = to} g put m all =
    let w = all (marking-first g to m) in
    record { to = to; queue = _; count = _; targets = put; marking = w.marking; done = w.done; first = w.grown.kept 1 (first-marked m) }

-- the lengths of the source
pub source-lengths : (rows names rows₁ names₁ : ℕ) → sheet_lengths rows names && sheet_lengths rows₁ names₁ ≡ true → (20 ≤ rows) × (rows ≤ 40960)
unfolding sheet_lengths
source-lengths n k n₁ k₁ l =
    let t = and-true-left (sheet_lengths n k) (sheet_lengths n₁ k₁) l in
    let a = eqb (n % 10) 0 in let b = leb 20 n in let c = leb n 40960 in let d = leb k 65536 in
    let u = and-true-left (a && b && c) d t in
    (leb-true 20 n (and-true-right a b (and-true-left (a && b) c u)), leb-true n 40960 (and-true-right (a && b) c u))
