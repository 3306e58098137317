-- `ir_reduce::index::index_heads` meets its contract. The invariant: the heads before the place at hand are entered, and no two have one name (`Entering`). Assumes nothing.
use Rattle.std.proofs.Common.{◌≡◌}
use lib.ListN.{length}
use Rattle.ir_reduce.specs.Index.{buckets}
use Rattle.ir_reduce.proofs.Laws.Index.{Entering}
use Rattle.ir_reduce.proofs.index.index_heads.Given as goal

abbrev pub invariant-loop-place : goal.invariant-loop-place
invariant-loop-place l = (l.table.numbers.ghost_name ≡ l.initial.table.numbers.ghost_name) × (l.table.buckets ≡ buckets) × (length l.table.numbers.now ≡ 8192)
    × Entering l.part.rows.now l.part.names.now l.part.end l.table.numbers.now l.table.entries l.table.sorted l.place
