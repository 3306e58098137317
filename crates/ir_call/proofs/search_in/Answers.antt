-- `ir_call::search_in` meets its contract: the part of the table that was used is cleared again. Assumes nothing.
use Prim.Native.Nat.{◌≤◌}
use mathlib.Core.Path.{◌∙◌}
use native.Mathlib.Omega.{arith}
use lib.ListN.{length}
use lib.Seq.{length-take-le}
use Rattle.ir_call.proofs.Laws.Calls.{zeros-again}
use Rattle.ir_call.proofs.search_in.Goals as goal

pub returns-clause-kept : goal.returns-clause-kept
returns-clause-kept c =
    let used : c.min-used.result ≤ length c.args.table.now = omega (arith, c.min-used.ensures) in
    λ z. zeros-again _ used (c.first_repeated-found.auto.numbers ∙ length-take-le c.min-used.result c.args.table.now used) (c.fill.ensures.after (λ y h. h)) z
