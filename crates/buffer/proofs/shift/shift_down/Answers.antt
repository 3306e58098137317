-- `buffer::shift::shift_down` meets its contract. Assumes nothing.
use native.Mathlib.Omega.{arith}
use Rattle.buffer.proofs.Laws.Shift.{copying-start, copying-end, moved_down}
use Rattle.buffer.proofs.shift.shift_down.Goals as goal

pub loop-k-init : goal.loop-k-init
loop-k-init c = copying-start _ _ _

pub loop-k-preserved : goal.loop-k-preserved
loop-k-preserved c = moved_down c.loop-k.invariant c.requires.0 c.requires.1 (omega arith)

pub returns : goal.returns
returns c = copying-end c.args.count c.loop-k.invariant (omega arith)
