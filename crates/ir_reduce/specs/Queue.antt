-- The marks with their queue: what is said of marks, queue and count (Marks.antt), of a queue that holds them.
--     SameQueueBuffers  it holds the buffers that it held, of the same lengths
--     MarksPlace, MarksTarget    what marking a place, and what a row leads to, does
--     HasRoom, IsMarking    the lengths, and that what is marked is counted; the marked places are those in the queue, and all are reached
--     MarksGroup, MarksAll    what marking what a group, and what the queue, leads to does
use Rattle.std.specs.Prelude.{ℕ, ◌≡◌, List, eqb, length}
use Rattle.rows.specs.declared.part.SheetPart.{SheetPart}
use Rattle.ir_reduce.specs.declared.reach.Queue.{Queue}
use Rattle.ir_reduce.specs.Marks.{ReachedPlace, Marked, Targeted, Room, Marking, GroupDone, AllDone}
use Rattle.ir_reduce.specs.Parts.{part_flags}

pub record SameQueueBuffers (x y : Queue) : Type 0 where
  pub marks : y.marks.ghost_name ≡ x.marks.ghost_name
  pub places : y.places.ghost_name ≡ x.places.ghost_name
  pub long : length y.marks.now ≡ length x.marks.now

pub record MarksPlace (x : Queue) (place : ℕ) (y : Queue) : Type 0 where
  pub same : SameQueueBuffers x y
  pub marked : Marked x.marks.now x.places.now x.count place y.marks.now y.places.now y.count

pub record MarksTarget (x : Queue) (q : ℕ) (y : Queue) : Type 0 where
  pub same : SameQueueBuffers x y
  pub targeted : Targeted (eqb q 0) x.marks.now x.places.now x.count q y.marks.now y.places.now y.count

abbrev pub HasRoom : SheetPart → List ℕ → Queue → Type 0
HasRoom part to x = Room (part_flags part) to x.marks.now x.places.now x.count

abbrev pub IsMarking : SheetPart → List ℕ → Queue → Type 0
IsMarking part to x = Marking (part_flags part) to x.marks.now x.places.now x.count

pub record MarksGroup (part : SheetPart) (to : List ℕ) (p : ℕ) (x y : Queue) : Type 0 where
  pub same : SameQueueBuffers x y
  pub room : HasRoom part to y
  pub done : IsMarking part to x → ReachedPlace (part_flags part) to p → GroupDone (part_flags part) to p x.marks.now x.places.now x.count y.marks.now y.places.now y.count

pub record MarksAll (part : SheetPart) (to : List ℕ) (x y : Queue) : Type 0 where
  pub same : SameQueueBuffers x y
  pub done : IsMarking part to x → AllDone (part_flags part) to x.marks.now x.places.now x.count y.marks.now y.places.now y.count y.count
