-- `plain_bytes::copy_bytes` meets its contract: word by word, and the last one again. Assumes nothing.
use native.Mathlib.Omega.{arith}
use Prim.Native.Nat.{◌+◌, ◌-◌, ◌*◌}
use lib.ListN.{length}
use Rattle.plain_bytes.proofs.Laws.Copied.{copied-more, copied-all}
use Rattle.plain_bytes.proofs.copy_bytes.Goals as goal

pub loop-k-preserved : goal.loop-k-preserved
loop-k-preserved c =
    let k = c.loop-k.k in
    copied-more c.loop-k.out c.args.bytes.now c.copy_from_slice.new.self (8 * k) (8 * k + 8 - 8 * k) (8 * (k + 1)) c.loop-k.invariant c.copy_from_slice.ensures.after
    (omega arith) (omega arith) (omega arith)

pub returns : goal.returns
returns c =
    copied-all c.loop-k.out c.args.bytes.now c.copy_from_slice-2.new.self (8 * c.loop-k.k) _ _ _ c.loop-k.invariant (omega arith) c.copy_from_slice-2.ensures.after (omega arith) (omega arith)
