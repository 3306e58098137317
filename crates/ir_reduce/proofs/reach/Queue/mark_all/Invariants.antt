-- `ir_reduce::reach::Queue::mark_all` meets its contract. The invariant: what the places before the one at hand lead to is marked. Assumes nothing.
use Prim.Native.Nat.{◌-◌}
use Rattle.ir_reduce.specs.Marks.{AllDone}
use Rattle.ir_reduce.specs.Parts.{part_flags}
use Rattle.ir_reduce.specs.Queue.{SameQueueBuffers, HasRoom, IsMarking}
use Rattle.ir_reduce.proofs.reach.Queue.mark_all.Given as goal

abbrev pub invariant-loop-k : goal.invariant-loop-k
invariant-loop-k l = record {
  same : SameQueueBuffers l.initial.self l.self;
  room : HasRoom l.part l.to l.self;
  done : IsMarking l.part l.to l.initial.self
      → AllDone (part_flags l.part) l.to l.initial.self.marks.now l.initial.self.places.now l.initial.self.count l.self.marks.now l.self.places.now l.self.count l.k;
}

abbrev pub decreases-loop-k : goal.decreases-loop-k
decreases-loop-k l = 4096 - l.k
