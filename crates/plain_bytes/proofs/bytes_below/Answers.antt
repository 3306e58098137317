-- `plain_bytes::bytes_below` meets its contract: a number of 64 digits has at most 64 zeros at its end. Assumes nothing.
use native.Mathlib.Omega.{arith}
use mathlib.Core.Path.{refl}
use lib.Count.{trailing_le}
use Rattle.plain_bytes.proofs.bytes_below.Goals as goal

pub overflow_cast-result : goal.overflow_cast-result
overflow_cast-result c = omega (arith, trailing_le 64 c.args.found)

pub returns : goal.returns
returns c = (refl, omega (arith, trailing_le 64 c.args.found))
