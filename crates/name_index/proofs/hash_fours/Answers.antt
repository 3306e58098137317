-- `name_index::hash_fours` meets its contract: four bytes go in at once. Assumes nothing.
use mathlib.Core.Path.{◌≡◌, refl, ◌∙◌}
use native.Mathlib.Omega.{arith}
use Prim.Native.Nat.{◌*◌, ◌/◌}
use lib.ListN.{length}
use Rattle.name_index.specs.Hash.{hash}
use Rattle.name_index.proofs.Laws.Hash.{mixed-below, hash-chunk}
use Rattle.name_index.proofs.hash_fours.Goals as goal

pub loop-a-init : goal.loop-a-init
unfolding hash
loop-a-init c = (omega arith, refl)

pub mix_four-h-requires : goal.mix_four-h-requires
mix_four-h-requires c = c.loop-a.invariant.0

pub loop-a-preserved : goal.loop-a-preserved
loop-a-preserved c =
    let e = c.as_chunks.ensures in
    let on = hash-chunk c.loop-a.h c.args.text.now c.as_chunks.result.0.now c.loop-a.a-index _ e.front (omega (arith, c.loop-a-test.true, e.front_len)) in
    rw c.mix_four-h.ensures (mixed-below _ _, on ∙ c.loop-a.invariant.1)

pub returns : goal.returns
returns c =
    let all : 4 * c.loop-a.a-index ≡ length c.args.text.now / 4 * 4 = omega (arith, c.loop-a-test.false, c.loop-a.auto.a-index-end, c.as_chunks.ensures.front_len) in
    (c.loop-a.invariant.0, rw (c.as_chunks.ensures.back, ← all) c.loop-a.invariant.1)
