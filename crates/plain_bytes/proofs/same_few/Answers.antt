-- `plain_bytes::same_few` meets its contract. The loop's invariant: the bytes so far are the same. Assumes nothing.
use mathlib.Core.Path.{sym}
use native.Mathlib.Omega.{arith}
use native.Mathlib.Nat.{not-suc-le-zero}
use Rattle.plain_bytes.proofs.Laws.Same.{alike-same, byte-differs}
use Rattle.plain_bytes.proofs.same_few.Goals as goal

pub loop-k-init : goal.loop-k-init
loop-k-init c = λ k l. absurd (not-suc-le-zero l)

pub returns-then-x-k : goal.returns-then-x-k
returns-then-x-k c = sym (byte-differs c.args.x.now c.args.y.now c.loop-k.k c.if-x-k.true)

pub returns : goal.returns
returns c = sym (alike-same c.args.x.now c.args.y.now c.requires (λ k l. c.loop-k.invariant k (omega (arith, c.loop-k-test.false, l))))
