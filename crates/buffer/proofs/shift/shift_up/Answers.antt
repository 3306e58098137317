-- `buffer::shift::shift_up` meets its contract. Assumes nothing.
use Prim.Native.Nat.{suc, ◌+◌, ◌-◌}
use mathlib.Core.Path.{◌≡◌}
use native.Mathlib.Omega.{arith}
use Rattle.buffer.proofs.Laws.Around.{length_part}
use Rattle.buffer.proofs.Laws.Shift.{moving-start, moved_up, moving-end}
use Rattle.buffer.proofs.shift.shift_up.Goals as goal

pub loop-k-init : goal.loop-k-init
loop-k-init c =
    let a = c.args in
    let e : a.count - 0 ≡ a.count = omega arith in
    rw e (moving-start _ _ _ _ (length_part a.names.now a.from a.count (omega arith)))

pub loop-k-preserved : goal.loop-k-preserved
loop-k-preserved c =
    let w = c.loop-k in
    let last = c.args.count - 1 - w.k in
    let e : suc last ≡ c.args.count - w.k = omega arith in
    let f : c.args.count - (w.k + 1) ≡ last = omega arith in
    rw f (moved_up {d = w.names} last (rw (← e) at w.invariant) c.requires.0 c.requires.1 (omega arith))

pub returns : goal.returns
returns c =
    let a = c.args in
    moving-end a.count c.loop-k.invariant (omega arith) (length_part a.names.now a.from a.count (omega arith))
