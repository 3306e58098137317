-- `ir_reduce::call::reduce_form` meets its contract: 21 where two types have one name. Assumes nothing.
use native.Mathlib.Omega.{arith}
use Rattle.ir_reduce.specs.Call.{Reduction}
use Rattle.ir_reduce.proofs.Laws.Facts.{at_least}
use Rattle.ir_reduce.proofs.Laws.Call.{repeated-form}
use Rattle.ir_reduce.proofs.call.reduce_form.Goals as goal

pub index_heads-requires : goal.index_heads-requires
index_heads-requires c =
    let g = c.requires.0 in
    (g.few, omega (arith, at_least g))

pub returns-in_default : goal.returns-in_default
returns-in_default c = rw c.into.ensures (Reduction.no_form c.requires.1 (repeated-form c.requires.0 c.in_default.ensures))
