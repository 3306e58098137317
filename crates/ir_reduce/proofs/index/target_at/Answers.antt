-- `ir_reduce::index::target_at` meets its contract: what is asked for is the definition's text. Assumes nothing.
use mathlib.Core.Path.{◌∙◌}
use native.Mathlib.Omega.{arith}
use Rattle.ir_reduce.proofs.Laws.Index.{asked-at-most, target_none, target-some}
use Rattle.ir_reduce.proofs.index.target_at.Goals as goal

pub returns-in_err-pair : goal.returns-in_err-pair
returns-in_err-pair c = rw c.from_residual.ensures (target_none _ _ _ _ c.in_err-pair.ensures)

pub overflow_add-i-2 : goal.overflow_add-i-2
overflow_add-i-2 c = omega (arith, asked-at-most _ _ c.in_ok-pair.ensures)

pub pair_text-requires : goal.pair_text-requires
pair_text-requires c = omega (arith, asked-at-most _ _ c.in_ok-pair.ensures, c.requires.1)

pub returns : goal.returns
returns c =
    let a = c.args in
    rw (target-some a.part.now.rows.now a.part.now.names.now _ a.place c.in_ok-pair.ensures)
    ((rw (c.pair_text.ensures, c.requires.0.buckets_are) at c.find.ensures) ∙ c.requires.0.all.answers _)
