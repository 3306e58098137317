-- `ir_index::first_came` meets its contract. The invariant: the heads of the turns passed did not come with the block. Assumes nothing.
use Prim.Native.Nat.{◌-◌}
use Rattle.ir_index.specs.Heads.{heads_from}
use Rattle.ir_index.specs.Blocks.{NoneCame, names_in}
use Rattle.ir_index.proofs.first_came.Given as goal

abbrev pub invariant-loop-turn : goal.invariant-loop-turn
invariant-loop-turn l = NoneCame (names_in l.part l.table) (heads_from l.part l.fn.search.from (l.turn - l.fn.search.from))
