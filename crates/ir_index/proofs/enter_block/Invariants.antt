-- `ir_index::enter_block` meets its contract. The invariant: the heads of the turns passed are entered, and no two have one name (`Entering`). The measure is
-- how many turns are left. Assumes nothing.
use Prim.Native.Nat.{◌-◌}
use mathlib.Core.Path.{◌≡◌}
use lib.ListN.{length}
use Rattle.ir_index.proofs.Laws.Steps.{Entering}
use Rattle.ir_index.proofs.enter_block.Given as goal

abbrev pub invariant-loop-next : goal.invariant-loop-next
invariant-loop-next l = (l.table.numbers.ghost_name ≡ l.initial.table.numbers.ghost_name) × (l.table.buckets ≡ l.buckets) × (length l.table.numbers.now ≡ length l.initial.table.numbers.now)
    × Entering l.part l.search l.table l.next

abbrev pub decreases-loop-next : goal.decreases-loop-next
decreases-loop-next l = l.search.limit - l.next
