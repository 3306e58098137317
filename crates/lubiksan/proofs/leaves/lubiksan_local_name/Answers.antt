-- `lubiksan::leaves::lubiksan_local_name` meets its contract: a local name is no longer than its name. Assumes nothing.
use Prim.Native.Nat.{◌-◌}
use mathlib.Core.Path.{ap}
use native.Mathlib.Omega.{arith}
use lib.ListN.{length}
use Rattle.text.specs.Text.{Text}
use Rattle.text.proofs.Laws.Local.{local_name-length}
use Rattle.lubiksan.proofs.leaves.lubiksan_local_name.Goals as goal

pub overflow_sub-result : goal.overflow_sub-result
overflow_sub-result c = omega (arith, ap length c.local_name-local.ensures.bytes, local_name-length c.args.name.now)

pub returns : goal.returns
returns c = ap (λ (l : Text). length c.args.name.now - length l) c.local_name-local.ensures.bytes
