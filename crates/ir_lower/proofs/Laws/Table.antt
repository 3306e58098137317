-- Every lowering comes under one case of the table; 13's place is the first unknown simple type's row. Assumes nothing.
use Prim.Native.Nat.{ℕ, ◌%◌}
use mathlib.Core.Path.{◌≡◌, refl, sym, subst, ap, ◌∙◌}
use mathlib.Core.Logic.{⊎_elim}
use mathlib.Core.Bool.{true, false, ◌&&◌, false≢true}
use mathlib.Core.List.{List, [], ◌∷◌, ◌++◌}
use native.Mathlib.Omega.{arith}
use lib.Dec.{eqb, leb}
use lib.ListN.{length}
use borrow.Author.Tests.{eqb-true}
use Rattle.std.proofs.lemmas.Bool.{cases_Bool, and_parts}
use Rattle.text.proofs.Laws.Tests.{four}
use Rattle.sheet.specs.Rows.{Sheet}
use Rattle.sheet.specs.Lengths.{sheet_lengths, lengths_of, good_lengths}
use Rattle.xsd_types.specs.Types.{SimpleType, Item, simple_types}
use Rattle.xsd_types.specs.State.{State}
use Rattle.xsd_types.specs.Count.{good, state_of}
use Rattle.xsd_types.specs.Refused.{refused_base}
use Rattle.ir_lower.specs.Lower.{any_unknown, unknown_row}
use Rattle.ir_lower.specs.Call.{Lowered, cleared, lowering}
use Rattle.ir_lower.specs.Outcome.{LoweringOutcome}
use Rattle.ir_lower.specs.Table.{LoweringTable, FirstUnknown, LoweredLabels}
use Rattle.ir_types.specs.References.{GraphLabels}
use Rattle.ir_types.proofs.Laws.References.{graph-labels}
use Rattle.ir_lower.proofs.Laws.Outcome.{unchanged-number, cleared-number, lowering-1, lowering-2, lowering-state, outcome, outcome-zero}
use Rattle.ir_lower.proofs.Laws.Refusals.{unknown_row-first}

pub lowering-table : (x graph : Sheet) (scratch : List ℕ) → LoweringTable x graph scratch (lowering x graph scratch)
lowering-table x graph scratch =
    ⊎_elim (λ h. ⊎_elim (λ k. LoweringTable.judged h k (rw (lowering-state x graph scratch h k) (outcome (state_of x) graph scratch)))
    (λ k. LoweringTable.not_good h k (lowering-2 x graph scratch h k)) (cases_Bool (good x)))
    (λ h. LoweringTable.lengths h (lowering-1 x graph scratch h))
    (cases_Bool (good_lengths (lengths_of x) && good_lengths (lengths_of graph)))

-- a list of items with an unknown simple type, cut at the first one
record Split (items : List Item) : Type 0 where
  before : List Item
  type : SimpleType
  behind : List Item
  made : items ≡ before ++ (Item.simple_type type ∷ behind)
  known : any_unknown (simple_types before) ≡ false
  unknown : refused_base type ≡ true

passed : (i : Item) {items : List Item} → ((before : List Item) → any_unknown (simple_types before) ≡ false → any_unknown (simple_types (i ∷ before)) ≡ false) → Split items → Split (i ∷ items)
passed i h s =
    record { before = i ∷ s.before; type = s.type; behind = s.behind; made = ap (λ (l : List Item). i ∷ l) s.made; known = h s.before s.known; unknown = s.unknown }

split : (items : List Item) → any_unknown (simple_types items) ≡ true → Split items
unfolding any_unknown simple_types
split [] h = absurd (false≢true h)
split (Item.element e ∷ is) h = passed (Item.element e) (λ b k. k) (split is h)
split (Item.simple_type t ∷ is) h =
    ⊎_elim (λ k. record { before = []; type = t; behind = is; made = refl; known = refl; unknown = k })
    (λ k. passed (Item.simple_type t) (λ b n. rw k n) (split is (rw k at h)))
    (cases_Bool (refused_base t))
split (Item.complex_type t ∷ is) h = passed (Item.complex_type t) (λ b k. k) (split is h)

pub first-unknown : (row : ℕ) (items : List Item) → any_unknown (simple_types items) ≡ true → FirstUnknown row items (unknown_row row items)
first-unknown row items h =
    let s = split items h in
    record {
      before = s.before;
      type = s.type;
      behind = s.behind;
      made = s.made;
      known = s.known;
      unknown = s.unknown;
      stands = ap (unknown_row row) s.made ∙ unknown_row-first row s.before s.behind s.type s.known s.unknown;
    }

outcome-unknown : (s : State) (graph : Sheet) (scratch : List ℕ) (l : Lowered) → LoweringOutcome s graph scratch l → l.answer.number ≡ 13
    → FirstUnknown 2 s.reader.schema.items l.answer.place
unfolding cleared
outcome-unknown s graph scratch l (LoweringOutcome.short a e) h = let q = unchanged-number 14 graph scratch l e in absurd (omega arith)
outcome-unknown s graph scratch l (LoweringOutcome.rootless a b e) h = let q = cleared-number 12 0 graph scratch l e in absurd (omega arith)
outcome-unknown s graph scratch l (LoweringOutcome.unknown a b c e) h = rw e (first-unknown 2 s.reader.schema.items c)
outcome-unknown s graph scratch l (LoweringOutcome.repeated a b g c row r e) h = let q = cleared-number 20 row graph scratch l e in absurd (omega arith)
outcome-unknown s graph scratch l (LoweringOutcome.tight a b g c r f e) h = let q = cleared-number 15 0 graph scratch l e in absurd (omega arith)
outcome-unknown s graph scratch l (LoweringOutcome.fitting a b g c r f e) h = let q : l.answer.number ≡ 0 = ap (λ (x : Lowered). x.answer.number) e in absurd (omega arith)

-- 13: "place is the row of the first such simple type"
pub unknown-first : (x graph : Sheet) (scratch : List ℕ) → (lowering x graph scratch).answer.number ≡ 13
    → FirstUnknown 2 (state_of x).reader.schema.items (lowering x graph scratch).answer.place
unknown-first x graph scratch h = go (lowering x graph scratch) (lowering-table x graph scratch) h
  where
    go : (l : Lowered) → LoweringTable x graph scratch l → l.answer.number ≡ 13 → FirstUnknown 2 (state_of x).reader.schema.items l.answer.place
    go l (LoweringTable.lengths g e) k = let q = unchanged-number 1 graph scratch l e in absurd (omega arith)
    go l (LoweringTable.not_good g b e) k = let q = unchanged-number 2 graph scratch l e in absurd (omega arith)
    go l (LoweringTable.judged g b o) k = outcome-unknown (state_of x) graph scratch l o k

-- ---- the labels of an accepted graph

outcome-labels : (s : State) (graph : Sheet) (scratch words : List ℕ) (l : Lowered) → length graph.rows % 10 ≡ 0 → LoweringOutcome s graph scratch l → l.answer.number ≡ 0
    → LoweredLabels s.reader.schema l.graph words
outcome-labels s graph scratch words l m o h =
    let x = outcome-zero s graph scratch l o h in
    let labels = graph-labels x.lowered (length graph.rows) (length graph.names) words x.fits m in
    record { lowered = x.lowered; from = x.from; labels = subst (λ (y : Sheet). GraphLabels x.lowered y words) (sym x.sheet) labels }

tenth : (graph : Sheet) → good_lengths (lengths_of graph) ≡ true → length graph.rows % 10 ≡ 0
unfolding good_lengths lengths_of sheet_lengths
tenth graph h = eqb-true (length graph.rows % 10) 0
    (four (eqb (length graph.rows % 10) 0) (leb 20 (length graph.rows)) (leb (length graph.rows) 40960) (leb (length graph.names) 65536) h).0

pub lowering-labels : (x graph : Sheet) (scratch words : List ℕ) → (lowering x graph scratch).answer.number ≡ 0
    → LoweredLabels (state_of x).reader.schema (lowering x graph scratch).graph words
lowering-labels x graph scratch words h = go (lowering x graph scratch) (lowering-table x graph scratch) h
  where
    go : (l : Lowered) → LoweringTable x graph scratch l → l.answer.number ≡ 0 → LoweredLabels (state_of x).reader.schema l.graph words
    go l (LoweringTable.lengths g e) k = let q = unchanged-number 1 graph scratch l e in absurd (omega arith)
    go l (LoweringTable.not_good g b e) k = let q = unchanged-number 2 graph scratch l e in absurd (omega arith)
    go l (LoweringTable.judged g b o) k = outcome-labels (state_of x) graph scratch words l (tenth graph (and_parts (good_lengths (lengths_of x)) (good_lengths (lengths_of graph)) g).1) o k
