-- `ir_reduce::reach::Queue::mark_group` meets its contract. The invariant: what the rows so far lead to is marked. Assumes nothing.
use Prim.Native.Nat.{◌<◌}
use mathlib.Core.Path.{sym, ◌∙◌}
use mathlib.Core.Logic.{inl, inr}
use native.Mathlib.Omega.{arith}
use lib.Dec.{eqb}
use lib.ListN.{length, get_or}
use Rattle.ir_reduce.specs.Parts.{part_flags}
use Rattle.ir_reduce.proofs.Laws.Marks.{flags-length, grouping-start, grouping-more, grouping-end, room-more, room-there, behind-true, behind-false}
use Rattle.ir_reduce.proofs.Laws.Queue.{same_start, same_then}
use Rattle.ir_reduce.proofs.reach.Queue.mark_group.Goals as goal

pub loop-row-init : goal.loop-row-init
loop-row-init c = record { same = same_start; room = c.requires.0; done = λ w r. grouping-start w }

pub returns-then-is_behind : goal.returns-then-is_behind
returns-then-is_behind c =
    let part = c.args.part.now in
    let l = c.loop-row in
    let behind = behind-true part.rows.now part.end c.args.p l.row (omega arith) (sym c.is_behind.ensures ∙ c.if-is_behind.true) in
    record { same = l.invariant.same; room = l.invariant.room; done = λ w r. grouping-end (l.invariant.done w r) (inr behind) }

pub bounds-to-row : goal.bounds-to-row
bounds-to-row c = omega (arith, c.loop-row.invariant.room.tos, flags-length c.args.part.now.rows.now 0 c.args.part.now.end)

pub mark_target-requires : goal.mark_target-requires
mark_target-requires c =
    let r = c.loop-row.invariant.room in
    let t = r.targets c.loop-row.row in
    (omega (arith, r.long), r.few, room-there r t)

pub loop-row-preserved : goal.loop-row-preserved
loop-row-preserved c =
    let inv = c.loop-row.invariant in
    let row = c.loop-row.row in
    let part = c.args.part.now in
    let q = get_or c.args.to.now row 0 in
    let t = c.mark_target.ensures in
    let b = inv.room.targets row in
    let plain = behind-false part.rows.now part.end c.args.p row (omega arith) (sym c.is_behind.ensures ∙ c.if-is_behind.false) in
    let inside : row < length (part_flags part) = rw (flags-length part.rows.now 0 part.end) (omega arith) in
    record {
      same = same_then inv.same t.same;
      room = room-more (eqb q 0) inv.room b t.targeted;
      done = λ w r. grouping-more (inv.done w r) r (omega arith) inside b plain t.targeted;
    }

pub returns : goal.returns
returns c =
    let part = c.args.part.now in
    let inv = c.loop-row.invariant in
    record { same = inv.same; room = inv.room; done = λ w r. grouping-end (inv.done w r) (inl (rw (flags-length part.rows.now 0 part.end) (omega arith))) }
