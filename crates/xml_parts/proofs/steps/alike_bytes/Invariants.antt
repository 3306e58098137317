-- `xml_parts::steps::alike_bytes` meets its contract. The loop's invariant: so many bytes stood alike. The measure is how much is left. Assumes nothing.
use Prim.Native.Nat.{◌-◌}
use Rattle.xml_parts.specs.Answers.{GoesAlike}
use Rattle.xml_parts.proofs.steps.alike_bytes.Given as goal

abbrev pub invariant-loop-k : goal.invariant-loop-k
invariant-loop-k l = GoesAlike l.text l.a l.b l.k

abbrev pub decreases-loop-k : goal.decreases-loop-k
decreases-loop-k l = l.beside - l.k
