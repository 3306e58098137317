-- `xsd_replace::head::name_end` meets its contract: the first pair of the row is read. Assumes nothing.
use Prim.Native.Nat.{◌+◌, ◌*◌}
use native.Mathlib.Omega.{arith}
use Rattle.xsd_replace.proofs.Laws.Head.{head-numbers}
use Rattle.xsd_replace.proofs.head.name_end.Goals as goal

pub overflow_add-result : goal.overflow_add-result
overflow_add-result c =
    let known = c.type_inv.rows in
    let i = 10 * c.args.place + 1 in
    omega (arith, known i, known (i + 1), c.pair_at-first.ensures)

pub returns : goal.returns
returns c names used z rs name h = omega (arith, c.pair_at-first.ensures, head-numbers h)
