-- `name_index::search_sorted` meets its contract. The loop's invariant: the names before low are before the one asked for, and those from high on behind it. The
-- measure is how many are between. Assumes nothing.
use Prim.Native.Nat.{◌-◌}
use Rattle.names.specs.Same.{spelled_text}
use Rattle.name_index.specs.Index.{name_asked}
use Rattle.name_index.proofs.Laws.Sorted.{Halves}
use Rattle.name_index.proofs.search_sorted.Given as goal

abbrev pub invariant-loop-low : goal.invariant-loop-low
invariant-loop-low l = Halves (name_asked l.heads l.table) (spelled_text l.asked) l.table.entries l.low l.high

abbrev pub decreases-loop-low : goal.decreases-loop-low
decreases-loop-low l = l.high - l.low
