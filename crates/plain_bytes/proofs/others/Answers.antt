-- `plain_bytes::others` meets its contract: below 2 ^ 63 the sum does not wrap, and the result is the definition's. Assumes nothing.
use mathlib.Core.Path.{refl}
use native.Mathlib.Omega.{arith}
use Prim.Native.Nat.{◌*◌}
use lib.Bits.{xor_lt}
use Rattle.plain_bytes.specs.Words.{ones, others}
use Rattle.plain_bytes.proofs.others.Goals as goal

pub overflow_add-result : goal.overflow_add-result
overflow_add-result c = omega (arith, xor_lt 63 c.args.x (c.args.c * ones) c.requires.0 (omega arith))

pub returns : goal.returns
unfolding others
returns c = refl
