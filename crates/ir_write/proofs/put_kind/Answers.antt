-- `ir_write::put_kind` meets its contract. The invariant: all types of the kind are added where those from the place at hand on are (`Onward`). Assumes nothing.
use Rattle.ir_append.proofs.Laws.Onward.{onward-step, onward-end, onward-full}
use Rattle.ir_write.proofs.Laws.Rest.{kind_rows-on, kind_rows-end}
use Rattle.ir_write.proofs.put_kind.Goals as goal

pub returns-in_err-put_one : goal.returns-in_err-put_one
returns-in_err-put_one c =
    rw c.from_residual.ensures (onward-full _ c.loop-place.invariant (kind_rows-on c.args.part.now c.args.kind c.loop-place.place c.loop-place-test.true) c.in_err-put_one.ensures)

pub loop-place-preserved : goal.loop-place-preserved
loop-place-preserved c = onward-step c.loop-place.invariant (kind_rows-on c.args.part.now c.args.kind c.loop-place.place c.loop-place-test.true) c.in_ok-put_one.ensures

pub returns : goal.returns
returns c = onward-end c.loop-place.invariant (kind_rows-end c.args.part.now c.args.kind c.loop-place.place c.loop-place-test.false)
