-- `name_index::hash_spelled` meets its contract: each byte goes in by itself. Assumes nothing.
use Rattle.std.proofs.Common.{sym, ap, ◌∙◌, arith}
use Rattle.name_index.specs.Hash.{hash_from, hash}
use Rattle.name_index.proofs.Laws.Hash.{mixed-below}
use Rattle.name_index.proofs.hash_spelled.Goals as goal

pub loop-b-init : goal.loop-b-init
unfolding hash
loop-b-init c = (tt, tt, omega arith, ap (hash_from 0) (rw c.into_iter-b-iterator.ensures.into_iter_gives c.bytes-b-items.ensures))

pub loop-b-preserved : goal.loop-b-preserved
unfolding hash_from
loop-b-preserved c =
    rw c.mix-h.ensures (tt, tt, mixed-below _ _, sym (ap (hash_from c.loop-b.h) c.in-Some.ensures.steps) ∙ c.loop-b.invariant.3)

pub returns : goal.returns
unfolding hash_from
returns c = sym (ap (hash_from c.loop-b.h) c.in-None.ensures.steps.0) ∙ c.loop-b.invariant.3
