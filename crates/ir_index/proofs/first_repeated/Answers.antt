-- `ir_index::first_repeated` meets its contract. The invariant: what is left to be found is what is found of all heads. The measure is how many turns are left. Assumes nothing.
use mathlib.Core.Path.{sym, ◌∙◌}
use native.Mathlib.Omega.{arith}
use Rattle.ir_index.proofs.Laws.Blocks.{search-start, search_end}
use Rattle.ir_index.proofs.first_repeated.Goals as goal

pub loop-search-init : goal.loop-search-init
loop-search-init c = (omega arith, search-start c.args.part.now)

pub loop-search-preserved : goal.loop-search-preserved
loop-search-preserved c =
    let e = c.search_block-search.ensures in
    (omega (arith, e.lower, c.loop-search.invariant.0), e.left ∙ c.loop-search.invariant.1)

pub returns : goal.returns
returns c = sym c.loop-search.invariant.1 ∙ search_end c.args.part.now c.loop-search.search c.loop-search-test.false
