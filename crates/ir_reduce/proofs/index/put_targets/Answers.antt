-- `ir_reduce::index::put_targets` meets its contract. The invariant: the targets of the rows before the place at hand are stored. Assumes nothing.
use mathlib.Core.Path.{ap, ◌∙◌}
use native.Mathlib.Omega.{arith}
use Rattle.std.specs.Option.{unwrap_or}
use Rattle.ir_reduce.proofs.Laws.Index.{target-inside}
use Rattle.ir_reduce.proofs.index.put_targets.Goals as goal

pub overflow_cast-to : goal.overflow_cast-to
overflow_cast-to c = omega (
  arith,
  c.unwrap_or.ensures ∙ ap (λ o. unwrap_or o 0) c.target_at.ensures,
  target-inside c.requires.0.all c.loop-place.place,
  c.requires.1,
)
