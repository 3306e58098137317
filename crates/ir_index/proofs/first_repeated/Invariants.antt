-- `ir_index::first_repeated` meets its contract. The invariant: what is left to be found is what is found of all heads. The measure is how many turns are left. Assumes nothing.
use Prim.Native.Nat.{◌-◌, ◌*◌, ◌≤◌}
use mathlib.Core.Path.{◌≡◌}
use mathlib.Core.List.{[]}
use Rattle.ir_lower.specs.Repeated.{first_repeated}
use Rattle.ir_rows.specs.Parts.{part_heads}
use Rattle.ir_index.specs.Blocks.{left_of}
use Rattle.ir_index.proofs.first_repeated.Given as goal

abbrev pub invariant-loop-search : goal.invariant-loop-search
invariant-loop-search l = (l.search.limit ≤ 2 * (l.part.end - 2)) × (left_of l.part l.search ≡ first_repeated [] (part_heads l.part))

abbrev pub decreases-loop-search : goal.decreases-loop-search
decreases-loop-search l = l.search.limit - l.search.from
