-- `names::put_segments` meets its contract. The loop's invariant: `end` bytes of the target are written, and the scan of s from b on is what is still to be written.
-- Assumes nothing.
use native.Mathlib.Numerals.{add-one}
use native.Mathlib.Omega.{arith}
use Rattle.names.proofs.Laws.Writing.{writing-as, writing_put, writing-refused, writing-end, put_again}
use Rattle.names.proofs.Laws.Scans.{segments-passed, segments-kept, segments-end}
use Rattle.names.proofs.put_segments.Goals as goal
use Rattle.names.proofs.put_segments.Goals.{then-b-separator, else-b-separator+in_ok-end}

pub returns-then-b-ge128 : goal.returns-then-b-ge128
returns-then-b-ge128 c = put_again c.loop-b.invariant c.put_characters.ensures

pub returns-in_err-end : goal.returns-in_err-end
returns-in_err-end c =
    let a = c.args in
    let kept = segments-kept a.separator a.lowers c.loop-b.up a.s.now c.loop-b.b-index _ (omega arith) (omega arith) c.if-b-separator.false c.cased_byte.ensures in
    rw c.from_residual.ensures (writing-refused (writing-as c.loop-b.invariant kept) c.in_err-end.ensures)

pub loop-b-preserved : goal.loop-b-preserved
loop-b-preserved c =
    let a = c.args in
    let up = c.loop-b.up in
    let i = c.loop-b.b-index in
    let w = c.loop-b.invariant in
    elim c.if-b-separator.branch [
      | then-b-separator v ↦
          rw (v.out-is, v.up-is, v.end-is, add-one i) (writing-as w (segments-passed a.separator a.lowers up a.s.now i (omega arith) (omega arith) v.if-b-separator.true))
      | else-b-separator+in_ok-end v ↦
          rw (v.out-is, v.up-is, v.end-is, add-one i)
          (writing_put (writing-as w (segments-kept a.separator a.lowers up a.s.now i _ (omega arith) (omega arith) v.if-b-separator.false v.cased_byte.ensures)) v.in_ok-end.ensures)
    ]

pub returns : goal.returns
returns c =
    let a = c.args in
    writing-end (writing-as c.loop-b.invariant (segments-end a.separator a.lowers c.loop-b.up a.s.now c.loop-b.b-index (omega arith)))
