-- A queue that holds its buffers after one step and then another holds them, and what it marked is what the lent marks hold at the end. Assumes nothing.
use Prim.Native.Nat.{ℕ}
use mathlib.Core.Path.{◌≡◌, refl, sym, ◌∙◌}
use mathlib.Core.List.{List}
use Rattle.rows.specs.declared.part.SheetPart.{SheetPart}
use Rattle.ir_reduce.specs.declared.reach.Queue.{Queue}
use Rattle.ir_reduce.specs.Parts.{MarksAre}
use Rattle.ir_reduce.specs.Queue.{SameQueueBuffers}

pub same_start : {x : Queue} → SameQueueBuffers x x
same_start = record { marks = refl; places = refl; long = refl }

pub same_then : {x y z : Queue} → SameQueueBuffers x y → SameQueueBuffers y z → SameQueueBuffers x z
same_then s t = record { marks = t.marks ∙ s.marks; places = t.places ∙ s.places; long = t.long ∙ s.long }

pub marks_back : (part : SheetPart) {x y z : Queue} {marks : List ℕ} → SameQueueBuffers x y → SameQueueBuffers y z → MarksAre part z.marks.now
    → (x.marks.ghost_name ≡ z.marks.ghost_name → marks ≡ z.marks.now) → MarksAre part marks
marks_back part s t w back = rw (back (sym (same_then s t).marks)) w
