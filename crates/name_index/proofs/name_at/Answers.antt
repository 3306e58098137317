-- `name_index::name_at` meets its contract: the pair's two numbers are those behind the tag. Assumes nothing.
use Prim.Native.Nat.{◌+◌, ◌*◌}
use mathlib.Core.Path.{◌≡◌}
use native.Mathlib.Omega.{arith}
use Rattle.name_index.specs.Index.{head_name}
use Rattle.name_index.proofs.name_at.Goals as goal

pub returns : goal.returns
unfolding head_name
returns c =
    let p = c.args.place in
    let next : 10 * p + 1 + 1 ≡ 10 * p + 2 = omega arith in
    rw (← next) c.pair_text.ensures
