-- `ir_reduce::index::index_heads` meets its contract. The invariant: the heads before the place at hand are entered, and no two have one name (`Entering`). Assumes nothing.
use mathlib.Core.Path.{refl, sym, ◌∙◌}
use Rattle.std.proofs.Common.{rules}
use native.Mathlib.Omega.{arith}
use Rattle.ir_reduce.proofs.Laws.Index.{entering-start, entering-step, entering-end, entering-repeated, indexed-left}
use Rattle.ir_reduce.proofs.index.index_heads.Goals as goal

pub loop-place-init : goal.loop-place-init
loop-place-init c =
    let part = c.args.part.now in
    let s = c.start-table.ensures.started in
    (refl, s.buckets_are, s.same_length ∙ c.told-numbers, rw s.none (entering-start part.rows.now part.names.now part.end _ _ (s.index part.rows.now part.names.now _)))

pub enter_head-requires-clause-index : goal.enter_head-requires-clause-index
enter_head-requires-clause-index c = record { buckets_are = c.loop-place.invariant.1; index = c.loop-place.invariant.3.index }

pub enter_head-requires-clause-place_nonzero : goal.enter_head-requires-clause-place_nonzero
enter_head-requires-clause-place_nonzero c =
    let few = c.loop-place.invariant.3.few in
    (omega (arith, few), omega arith, c.requires.0, omega (arith, few, c.loop-place.invariant.2, c.requires.0))

pub returns-in_err-enter_head : goal.returns-in_err-enter_head
returns-in_err-enter_head c = rw c.from_residual.ensures (entering-repeated c.loop-place.invariant.3 (omega arith) c.in_err-enter_head.ensures.entered)

pub loop-place-preserved : goal.loop-place-preserved
loop-place-preserved c =
    let w = c.loop-place.invariant in
    let e = c.in_ok-enter_head.ensures in
    (e.same_numbers ∙ w.0, e.same_buckets ∙ w.1, e.same_length ∙ w.2, entering-step w.3 (omega arith) e.entered)

pub returns : goal.returns
returns c = indexed-left (entering-end c.loop-place.invariant.3 (omega arith)) (sym c.loop-place.invariant.0) (search rules)
