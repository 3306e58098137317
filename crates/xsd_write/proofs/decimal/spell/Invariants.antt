-- `xsd_write::decimal::spell` meets its contract. The invariant: the digits of what is left of the number, in front of those stored, are the number's, and
-- there is room for them. The measure is the place of the next digit. Assumes nothing.
use Prim.Native.Nat.{suc, ◌^◌, ◌≤◌, ◌<◌}
use mathlib.Core.Path.{◌≡◌}
use mathlib.Core.List.{◌++◌}
use lib.ListN.{length, drop}
use Rattle.xsd_written.specs.Decimal.{decimal_up, decimal}
use Rattle.xsd_write.proofs.decimal.spell.Given as goal

abbrev pub invariant-loop-rest : goal.invariant-loop-rest
invariant-loop-rest l = (l.at ≤ 19) × (l.rest < 10 ^ suc l.at) × (decimal_up l.at l.rest ++ drop (suc l.at) l.digits ≡ decimal l.n) × (length l.digits ≡ 20)

abbrev pub decreases-loop-rest : goal.decreases-loop-rest
decreases-loop-rest l = l.at
