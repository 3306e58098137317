-- `name_index::bucket_of` meets its contract: a hash below 2^32 times few buckets fits. Assumes nothing.
use native.Mathlib.Omega.{arith}
use Rattle.names.specs.Same.{spelled_text}
use Rattle.name_index.specs.Hash.{bucket_of}
use Rattle.name_index.proofs.Laws.Hash.{share-fits}
use Rattle.name_index.proofs.bucket_of.Goals as goal

pub overflow_mul-result : goal.overflow_mul-result
overflow_mul-result c =
    let a = c.args in
    let h = share-fits (spelled_text a.asked) a.buckets c.requires in
    omega (arith, rw (← c.hash_of.ensures) at h)

pub returns : goal.returns
unfolding bucket_of
returns c = rw c.hash_of.ensures
