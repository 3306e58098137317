-- `name_index::TableWriter::enter` meets its contract: where no entry has the name, the head's entry goes behind the others, with the last one of its bucket, which it
-- takes the place of; where the bucket is full, all entries are put in order before. Assumes nothing.
use mathlib.Core.Path.{refl, sym, ◌∙◌}
use native.Mathlib.Omega.{arith}
use lib.ListN.{length-set}
use Rattle.name_index.proofs.Laws.Buckets.{bucket-inside, before-bound, place-small, enter-added}
use Rattle.name_index.proofs.Laws.Sorted.{sorted-entered}
use Rattle.name_index.proofs.TableWriter.enter.Goals as goal

pub offset_bounds-self-bucket : goal.offset_bounds-self-bucket
offset_bounds-self-bucket c = omega (arith, bucket-inside _ c.requires.index c.bucket_of-bucket.ensures)

pub bounds-self-bucket : goal.bounds-self-bucket
bounds-self-bucket c = omega (arith, bucket-inside _ c.requires.index c.bucket_of-bucket.ensures)

pub overflow_mul-self : goal.overflow_mul-self
overflow_mul-self c =
    let b = rw c.spelled_at-asked.ensures at c.bucket_of-bucket.ensures in
    let w = rw c.if-self.false at c.requires.index in
    omega (arith, before-bound w c.requires.entering b, w.inside, w.small)

pub overflow_add-self : goal.overflow_add-self
overflow_add-self c =
    let b = rw c.spelled_at-asked.ensures at c.bucket_of-bucket.ensures in
    let w = rw c.if-self.false at c.requires.index in
    omega (arith, before-bound w c.requires.entering b, w.inside, w.small, place-small w c.requires.entering)

pub offset_bounds-self-bucket-2 : goal.offset_bounds-self-bucket-2
offset_bounds-self-bucket-2 c = omega (arith, bucket-inside _ c.requires.index c.bucket_of-bucket.ensures)

pub bounds-self-bucket-2 : goal.bounds-self-bucket-2
bounds-self-bucket-2 c = simp length-set (omega (arith, bucket-inside _ c.requires.index c.bucket_of-bucket.ensures))

pub returns-then-walk-ge-CHAIN : goal.returns-then-walk-ge-CHAIN
returns-then-walk-ge-CHAIN c =
    let s = c.sort.ensures in
    let e = c.enter_in_order-then-walk-ge-CHAIN.ensures in
    record {
      same_numbers = e.same_numbers;
      same_buckets = e.same_buckets;
      same_length = e.same_length ∙ s.same_length;
      count = e.count;
      entered = sorted-entered s.answers e.entered;
    }

pub returns : goal.returns
returns c =
    let b = rw c.spelled_at-asked.ensures at c.bucket_of-bucket.ensures in
    let none = rw c.spelled_at-asked.ensures at (sym c.held-walk.ensures.found ∙ c.in_default.is) in
    let passed = rw b at c.held-walk.ensures.passed c.in_default.is in
    record {
      same_numbers = refl;
      same_buckets = refl;
      same_length = length-set _ _ _ ∙ length-set _ _ _;
      count = refl;
      entered =
          record {
            place = sym none;
            added = λ e. rw (b, c.if-self.false) (enter-added (rw c.if-self.false at c.requires.index) c.requires.entering none (omega (arith, passed)));
          };
    }
