-- `name_index::find_in` meets its contract. The loop's invariant: the place of the name among all entries is that among the first e, and the last of those is
-- in its bucket, of which so many were passed. The measure is e, which falls. Assumes nothing.
use mathlib.Core.Path.{sym, ◌∙◌}
use native.Mathlib.Omega.{arith}
use Rattle.names.specs.Same.{spelled_text}
use Rattle.name_index.proofs.Laws.Buckets.{walk_start, walk-hit, walk_end, walk_count, walk_more, walk-less, bucket-inside}
use Rattle.name_index.proofs.find_in.Goals as goal

pub offset_bounds-table-bucket : goal.offset_bounds-table-bucket
offset_bounds-table-bucket c =
    omega (arith, bucket-inside _ c.requires.index c.requires.bucket_value)

pub bounds-table-bucket : goal.bounds-table-bucket
bounds-table-bucket c =
    omega (arith, bucket-inside _ c.requires.index c.requires.bucket_value)

pub loop-e-init : goal.loop-e-init
loop-e-init c =
    rw (c.wide-e.ensures, c.requires.bucket_value) (walk_start (rw c.requires.hashed at c.requires.index) (spelled_text c.args.asked))

pub returns-then-same_spelled-clause-found : goal.returns-then-same_spelled-clause-found
returns-then-same_spelled-clause-found c =
    let hit = rw (c.spelled_at.ensures, c.place_in-place.ensures) at (sym c.same_spelled.ensures ∙ c.if-same_spelled.true) in
    rw c.place_in-place.ensures (walk-hit (rw c.requires.hashed at c.requires.index) _ c.loop-e.invariant (omega arith) hit)

pub loop-e-smaller : goal.loop-e-smaller
loop-e-smaller c =
    rw c.wide-e-in-loop-e.ensures (walk-less (rw c.requires.hashed at c.requires.index) _ c.loop-e.invariant (omega arith))

pub loop-e-preserved : goal.loop-e-preserved
loop-e-preserved c =
    let other = rw (c.spelled_at.ensures, c.place_in-place.ensures) at (sym c.same_spelled.ensures ∙ c.if-same_spelled.false) in
    rw c.wide-e-in-loop-e.ensures (walk_more (rw c.requires.hashed at c.requires.index) _ c.loop-e.invariant (omega arith) other)

pub returns-clause-found : goal.returns-clause-found
returns-clause-found c =
    walk_end (rw c.requires.hashed at c.requires.index) _ c.loop-e.invariant (omega arith)

pub returns-clause-passed : goal.returns-clause-passed
returns-clause-passed c e =
    rw c.requires.bucket_value (walk_count (rw c.requires.hashed at c.requires.index) _ c.loop-e.invariant (omega arith))
