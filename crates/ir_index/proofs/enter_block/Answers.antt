-- `ir_index::enter_block` meets its contract. The invariant: the heads of the turns passed are entered, and no two have one name (`Entering`). The measure is
-- how many turns are left. Assumes nothing.
use mathlib.Core.Path.{refl, sym, ◌∙◌}
use native.Mathlib.Omega.{arith}
use lib.ListN.{length}
use Prim.Native.Nat.{◌+◌, ◌≤◌, ◌<◌}
use Rattle.std.proofs.Common.{rules}
use Rattle.std.proofs.lemmas.Result.{err_from_is_err_and}
use Rattle.ir_index.proofs.Laws.Steps.{block-start, block-next, block-repeated, block-taken}
use Rattle.ir_index.proofs.enter_block.Goals as goal
use Rattle.ir_index.proofs.enter_block.Goals.{then-loop-next-test+else-table, else-loop-next-test}

pub loop-next-init : goal.loop-next-init
loop-next-init c =
    let part = c.args.part.now in
    let s = c.start-table.ensures.started in
    (refl, s.buckets_are, refl, block-start (omega (arith, c.requires.within.1)) s.none (rw (s.buckets_are, s.none) (s.index part.rows.now part.names.now _)))

pub returns-in_err-enter_turn : goal.returns-in_err-enter_turn
returns-in_err-enter_turn c =
    let p = err_from_is_err_and c.from_residual.result c.from_residual.ensures.1 in
    rw (p.1, p.2) (block-repeated c.loop-next.invariant.3 (omega arith) c.in_err-enter_turn.ensures.entered)

pub loop-next-preserved : goal.loop-next-preserved
loop-next-preserved c =
    let w = c.loop-next.invariant in
    let e = c.in_ok-enter_turn.ensures in
    (e.same_numbers ∙ w.0, e.same_buckets ∙ w.1, e.same_length ∙ w.2, block-next w.3 (omega arith) e.entered)

pub returns : goal.returns
returns c =
    let w = c.loop-next.invariant in
    let full : c.loop-next.next < c.args.search.limit → length c.loop-next.table.numbers.now ≤ c.loop-next.table.buckets + c.loop-next.table.entries = elim c.loop-next-test.branch [
      | then-loop-next-test+else-table v ↦ (λ l. omega (arith, v.if-table.false))
      | else-loop-next-test v ↦ (λ l. absurd (omega (arith, v.loop-next-test.false)))
    ] in
    block-taken w.3 (sym w.0) (search rules) w.1 c.requires.within.1 (omega (arith, w.2, c.start-table.ensures.started.same_length, c.requires.starts.1)) full
