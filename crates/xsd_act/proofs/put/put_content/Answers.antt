-- `xsd_act::put::put_content` meets its contract: the head is replaced by one of a pair or two, with the c that it has. Assumes nothing.
use mathlib.Core.Path.{ap}
use Prim.Native.Nat.{ℕ}
use native.Mathlib.Omega.{arith}
use lib.ListN.{length}
use Rattle.xsd_replace.proofs.Laws.Head.{head-numbers}
use Rattle.xsd_act.proofs.put.put_content.Goals as goal

pub numbers_at-old-requires : goal.numbers_at-old-requires
numbers_at-old-requires c = omega (arith, ap (length {A = ℕ}) c.as_rows.ensures, head-numbers c.requires.head)

pub returns : goal.returns
returns c = rw (c.numbers_at-old.ensures, c.as_rows.ensures) at c.replace_head.ensures
