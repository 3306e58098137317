-- `name_index::TableWriter::start` meets its contract: all buckets are 0, and there is no entry. Assumes nothing.
use mathlib.Core.Path.{refl}
use native.Mathlib.Omega.{arith}
use lib.ListN.{length-append, length-drop}
use lib.Seq.{length-take-le}
use Rattle.buffer.proofs.Laws.Zeros.{front-zeroed}
use Rattle.name_index.proofs.Laws.Buckets.{index-start}
use Rattle.name_index.proofs.TableWriter.start.Goals as goal

pub returns-clause-started : goal.returns-clause-started
returns-clause-started c =
    let a = c.args in
    let zeroed = front-zeroed a.buckets a.numbers.now _ c.requires.inside (c.fill.ensures.after (λ y h. h)) in
    record {
      buckets_are = refl;
      same_length = simp length-append (omega (arith, length-take-le a.buckets a.numbers.now c.requires.inside, length-drop a.buckets a.numbers.now, c.fill.ensures.len, c.requires.inside));
      none = refl;
      index = λ rows names normalised. rw zeroed (index-start rows names normalised c.requires);
    }
