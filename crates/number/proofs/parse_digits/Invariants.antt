-- `number::parse_digits` meets its contract. The loop's invariant: the digits before b are read.
use Prim.Native.Nat.{◌^◌}
use Rattle.number.proofs.Laws.Numbers.{ReadTo}
use Rattle.number.proofs.parse_digits.Given as goal

abbrev pub invariant-loop-b : goal.invariant-loop-b
invariant-loop-b l = ReadTo (2 ^ 64) l.digits l.value l.b-index
