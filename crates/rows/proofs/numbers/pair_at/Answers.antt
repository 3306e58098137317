-- `rows::numbers::pair_at` meets its contract: a u32 fits a usize. Assumes nothing.
use Prim.Native.Nat.{◌+◌}
use native.Mathlib.Omega.{arith}
use Rattle.rows.proofs.numbers.pair_at.Goals as goal

pub overflow_cast-result : goal.overflow_cast-result
overflow_cast-result c =
    let known = c.shared_slice_known-2-1.given in
    let i = c.args.i in
    omega (arith, known i, known (i + 1))

pub overflow_cast-result-2 : goal.overflow_cast-result-2
overflow_cast-result-2 c =
    let known = c.shared_slice_known-2-1.given in
    let i = c.args.i in
    omega (arith, known i, known (i + 1))
