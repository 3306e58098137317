-- `name_index::hash_text` meets its contract: the bytes behind the fours go in one by one. Assumes nothing.
use mathlib.Core.Path.{sym, ◌∙◌}
use Rattle.name_index.proofs.Laws.Hash.{mixed-below, hash-on, hash-end}
use Rattle.name_index.proofs.hash_text.Goals as goal

pub loop-b-init : goal.loop-b-init
loop-b-init c = c.hash_fours-hashed.ensures

pub mix-h-requires : goal.mix-h-requires
mix-h-requires c = c.loop-b.invariant.0

pub loop-b-preserved : goal.loop-b-preserved
loop-b-preserved c =
    rw c.mix-h.ensures (mixed-below _ _, sym (hash-on c.loop-b.h _ c.loop-b.b-index c.loop-b-test.true) ∙ c.loop-b.invariant.1)

pub returns : goal.returns
returns c = sym (hash-end c.loop-b.h _ c.loop-b.b-index c.loop-b-test.false) ∙ c.loop-b.invariant.1
