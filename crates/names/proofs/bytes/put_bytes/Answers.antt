-- `names::bytes::put_bytes` meets its contract. The loop's invariant: `end` bytes of the target are written, and what is left of the iterator is what is still to be
-- written. Assumes nothing.
use Rattle.std.proofs.Common.{sym, ap}
use Rattle.names.proofs.Laws.Writing.{writing_start, writing-as, writing_put, writing-refused, writing-end}
use Rattle.names.proofs.bytes.put_bytes.Goals as goal

pub loop-b-init : goal.loop-b-init
loop-b-init g c =
    let ends = g.met.B.TextBytes.ends _ in
    (ends.0, ends.1, writing-as (writing_start _ _) (sym (ap g.B.TextBytes.left c.into_iter-b-iterator.ensures.into_iter_gives)))

pub returns-in_err-end : goal.returns-in_err-end
returns-in_err-end g c = rw c.from_residual.ensures (writing-refused (writing-as c.loop-b.invariant.2 (g.met.B.TextBytes.gives _ _ _ c.in-Some.ensures.steps)) c.in_err-end.ensures)

pub loop-b-preserved : goal.loop-b-preserved
loop-b-preserved g c =
    let ends = g.met.B.TextBytes.ends _ in
    (ends.0, ends.1, writing_put (writing-as c.loop-b.invariant.2 (g.met.B.TextBytes.gives _ _ _ c.in-Some.ensures.steps)) c.in_ok-end.ensures)

pub returns : goal.returns
returns g c = writing-end (writing-as c.loop-b.invariant.2 (g.met.B.TextBytes.gives _ _ _ c.in-None.ensures.steps).0)
