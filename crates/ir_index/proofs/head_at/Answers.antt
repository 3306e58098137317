-- `ir_index::head_at` meets its contract: the first half of the turns is for simple types. Assumes nothing.
use Prim.Native.Nat.{◌-◌}
use native.Mathlib.Omega.{arith}
use borrow.Author.Tests.{lt-ltb, le-ltb}
use Rattle.ir_index.specs.Heads.{head_place}
use Rattle.ir_index.proofs.head_at.Goals as goal

pub returns-then-turn-half : goal.returns-then-turn-half
unfolding head_place
returns-then-turn-half c =
    rw (lt-ltb c.args.turn (c.args.part.now.end - 2) (omega arith)) c.kind_at.ensures

pub returns : goal.returns
unfolding head_place
returns c =
    rw (le-ltb c.args.turn (c.args.part.now.end - 2) (omega arith)) c.kind_at-2.ensures
