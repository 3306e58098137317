-- `ir_write::put_roots` meets its contract. The invariant: all elements are added where those from the place at hand on are (`Onward`). Assumes nothing.
use Rattle.ir_append.proofs.Laws.Onward.{onward-step, onward-end, onward-full}
use Rattle.ir_write.proofs.Laws.Rest.{roots-end, roots-on}
use Rattle.ir_write.proofs.put_roots.Goals as goal

pub returns-in_err-put_root : goal.returns-in_err-put_root
returns-in_err-put_root c =
    rw c.from_residual.ensures (onward-full _ c.loop-place.invariant (roots-on c.args.part.now c.loop-place.place c.loop-place-test.true) c.in_err-put_root.ensures)

pub loop-place-preserved : goal.loop-place-preserved
loop-place-preserved c = onward-step c.loop-place.invariant (roots-on c.args.part.now c.loop-place.place c.loop-place-test.true) c.in_ok-put_root.ensures

pub returns : goal.returns
returns c = onward-end c.loop-place.invariant (roots-end c.args.part.now c.loop-place.place c.loop-place-test.false)
