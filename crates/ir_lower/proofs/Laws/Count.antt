-- Order 7: a lowering that reads the sheet's types gives 13 exactly if the count is above 0, since both ask the same test of each finished simple type. Assumes nothing.
use Rattle.std.specs.Prelude.{if◌then◌else◌}
use Prim.Native.Nat.{ℕ, suc, ◌<◌, ◌≤◌}
use mathlib.Core.Path.{◌≡◌, refl, sym, ap, ◌∙◌}
use mathlib.Core.Logic.{◌↔◌}
use mathlib.Core.Bool.{Bool, true, false, ◌&&◌, ◌||◌, false≢true}
use mathlib.Core.List.{List, [], ◌∷◌}
use mathlib.Core.Option.{some}
use native.Mathlib.Omega.{arith}
use lib.ListN.{length}
use Rattle.sheet.specs.Rows.{Sheet}
use Rattle.sheet.specs.Lengths.{lengths_of, good_lengths}
use Rattle.xsd_types.specs.Types.{Item, simple_types}
use Rattle.xsd_types.specs.State.{State}
use Rattle.xsd_types.specs.Refused.{refused_base, refused_item}
use Rattle.xsd_types.specs.Count.{refused_types, count_in, state_of, good}
use Rattle.xsd_types.proofs.Laws.Count.{good-count}
use Rattle.ir_types.specs.Types.{TypeGraph}
use Rattle.ir_lower.specs.Lower.{any_unknown, lower}
use Rattle.ir_lower.specs.Call.{Lowered, lowering, scratch_least}
use Rattle.ir_lower.specs.Outcome.{LoweringOutcome}
use Rattle.ir_lower.proofs.Laws.Refusals.{refused-exactly}
use Rattle.ir_lower.proofs.Laws.Outcome.{cleared-number, lowering-state, outcome}

or_some : (b c : Bool) (n : ℕ) → (c ≡ true) ↔ (0 < n) → (b || c ≡ true) ↔ (0 < (if b then suc n else n))
or_some true c n h = (λ e. omega arith, λ l. refl)
or_some false c n h = h

-- some finished simple type is refused exactly if the count is above 0
pub refused-some : (is : List Item) → (any_unknown (simple_types is) ≡ true) ↔ (0 < refused_types is)
unfolding refused_types refused_item any_unknown simple_types
refused-some [] = (λ e. absurd (false≢true e), λ l. absurd (omega arith))
refused-some (Item.element e ∷ is) = refused-some is
refused-some (Item.simple_type t ∷ is) = or_some (refused_base t) (any_unknown (simple_types is)) (refused_types is) (refused-some is)
refused-some (Item.complex_type t ∷ is) = refused-some is

-- a graph stands for no refused type
lowered_none : (s : State) (g : TypeGraph) → lower s.reader.schema ≡ some g → any_unknown (simple_types s.reader.schema.items) ≡ true → ⊥
lowered_none s g c u = let n = (refused-exactly s.reader.schema).1 u in let z : ◌≡◌ {A = ℕ} 0 1 = cc in omega arith

outcome-thirteen : (s : State) (graph : Sheet) (scratch : List ℕ) (l : Lowered) → LoweringOutcome s graph scratch l → scratch_least ≤ length scratch → s.reader.root_seen ≡ true
    → (l.answer.number ≡ 13) ↔ (any_unknown (simple_types s.reader.schema.items) ≡ true)
outcome-thirteen s graph scratch l (LoweringOutcome.short a e) k r = absurd (omega arith)
outcome-thirteen s graph scratch l (LoweringOutcome.rootless a b e) k r = absurd (false≢true (sym b ∙ r))
outcome-thirteen s graph scratch l (LoweringOutcome.unknown a b c e) k r = (λ n. c, λ n. cleared-number 13 _ graph scratch l e)
outcome-thirteen s graph scratch l (LoweringOutcome.repeated a b g c row q e) k r =
    (λ n. let z = cleared-number 20 row graph scratch l e in absurd (omega arith), λ n. absurd (lowered_none s g c n))
outcome-thirteen s graph scratch l (LoweringOutcome.tight a b g c q f e) k r =
    (λ n. let z = cleared-number 15 0 graph scratch l e in absurd (omega arith), λ n. absurd (lowered_none s g c n))
outcome-thirteen s graph scratch l (LoweringOutcome.fitting a b g c q f e) k r =
    (λ n. let z : l.answer.number ≡ 0 = ap (λ (y : Lowered). y.answer.number) e in absurd (omega arith), λ n. absurd (lowered_none s g c n))

pub thirteen-exactly : (x graph : Sheet) (scratch : List ℕ) → good_lengths (lengths_of x) && good_lengths (lengths_of graph) ≡ true → good x ≡ true
    → (state_of x).reader.root_seen ≡ true → scratch_least ≤ length scratch
    → ((lowering x graph scratch).answer.number ≡ 13) ↔ (0 < count_in x)
thirteen-exactly x graph scratch h g r k =
    let e = lowering-state x graph scratch h g in
    let o = outcome-thirteen (state_of x) graph scratch _ (outcome (state_of x) graph scratch) k r in
    let s = refused-some (state_of x).reader.schema.items in
    let c = good-count x g in
    (λ n. rw c (s.0 (o.0 (rw e at n))), λ n. rw e (o.1 (s.1 (rw c at n))))
