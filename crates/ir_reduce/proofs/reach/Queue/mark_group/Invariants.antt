-- `ir_reduce::reach::Queue::mark_group` meets its contract. The invariant: what the rows so far lead to is marked. Assumes nothing.
use Rattle.ir_reduce.specs.Marks.{ReachedPlace}
use Rattle.ir_reduce.specs.Parts.{part_flags}
use Rattle.ir_reduce.specs.Queue.{SameQueueBuffers, HasRoom, IsMarking}
use Rattle.ir_reduce.proofs.Laws.Marks.{Grouping}
use Rattle.ir_reduce.proofs.reach.Queue.mark_group.Given as goal

abbrev pub invariant-loop-row : goal.invariant-loop-row
invariant-loop-row l = record {
  same : SameQueueBuffers l.initial.self l.self;
  room : HasRoom l.part l.to l.self;
  done : IsMarking l.part l.to l.initial.self → ReachedPlace (part_flags l.part) l.to l.p
      → Grouping (part_flags l.part) l.to l.p l.row l.initial.self.marks.now l.initial.self.places.now l.initial.self.count l.self.marks.now l.self.places.now l.self.count;
}
