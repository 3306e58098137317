-- `ir_index::first_came` meets its contract. The invariant: the heads of the turns passed did not come with the block. Assumes nothing.
use mathlib.Core.Path.{◌≡◌}
use native.Mathlib.Omega.{arith}
use Rattle.ir_index.specs.Blocks.{names_in}
use Rattle.ir_index.proofs.Laws.Blocks.{none_start, none-next}
use Rattle.ir_index.proofs.first_came.Goals as goal

pub loop-turn-init : goal.loop-turn-init
loop-turn-init c = none_start c.args.part.now (names_in c.args.part.now c.args.table.now) c.args.search.from

pub returns-in-Some : goal.returns-in-Some
returns-in-Some c =
    record { low = c.loop-turn.auto.turn; high = c.loop-turn-test.true; before = c.loop-turn.invariant; at = c.in-Some.ensures }

pub loop-turn-preserved : goal.loop-turn-preserved
loop-turn-preserved c =
    let a = c.args in
    none-next a.part.now (names_in a.part.now a.table.now) a.search.from c.loop-turn.turn c.loop-turn.auto.turn c.loop-turn.invariant c.in_default.ensures

pub returns : goal.returns
returns c =
    let ended : c.loop-turn.turn ≡ c.args.search.limit = omega (arith, c.loop-turn.auto.turn-end c.requires.within.1) in
    rw (← ended) c.loop-turn.invariant
