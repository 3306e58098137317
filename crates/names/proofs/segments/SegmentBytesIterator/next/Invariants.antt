-- `names::segments::SegmentBytes` gives its bytes one by one: no more is left at the start than at the place of the loop. Each turn takes a byte.
use Rattle.std.proofs.Common.{◌≡◌, length}
use Rattle.names.specs.Same.{bytes_left}
use Rattle.names.specs.declared.reading.Reading.{Reading}
use Rattle.names.proofs.segments.SegmentBytesIterator.next.Given as goal

abbrev pub invariant-loop-b : goal.invariant-loop-b
invariant-loop-b l = (bytes_left l.initial.self ≡ bytes_left l.self) × (l.self.reading ≡ Reading.Segments)

abbrev pub decreases-loop-b : goal.decreases-loop-b
decreases-loop-b l = length l.self.rest.now
