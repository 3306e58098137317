-- `ir_reduce::reach::Queue::mark_all` meets its contract. The invariant: what the places before the one at hand lead to is marked. Assumes nothing.
use native.Mathlib.Omega.{arith}
use Rattle.ir_reduce.proofs.Laws.Marks.{all_more, next-reached, count-bound, all-stops}
use Rattle.ir_reduce.proofs.Laws.Queue.{same_then}
use Rattle.ir_reduce.proofs.reach.Queue.mark_all.Goals as goal

pub offset_bounds-self-k : goal.offset_bounds-self-k
offset_bounds-self-k c = omega (arith, count-bound c.loop-k.invariant.room, c.loop-k.invariant.room.few)

pub bounds-self-k : goal.bounds-self-k
bounds-self-k c = omega (arith, count-bound c.loop-k.invariant.room, c.loop-k.invariant.room.room)

pub loop-k-smaller : goal.loop-k-smaller
loop-k-smaller c = omega (arith, count-bound c.loop-k.invariant.room, c.loop-k.invariant.room.few)

pub loop-k-preserved : goal.loop-k-preserved
loop-k-preserved c =
    let inv = c.loop-k.invariant in
    let g = c.mark_group.ensures in
    record { same = same_then inv.same g.same; room = g.room; done = λ w. let a = inv.done w in all_more a (omega arith) (g.done a.marking (next-reached a (omega arith))) }

pub returns : goal.returns
returns c = record { same = c.loop-k.invariant.same; done = λ w. all-stops (c.loop-k.invariant.done w) (omega arith) }
