-- `xml_parts::steps::starts` meets its contract. The loop's invariant: the rest of the word stands k bytes on where the word stands at the start. Assumes nothing.
use Prim.Native.Nat.{◌+◌, ◌≤◌, ◌<◌}
use mathlib.Core.Path.{◌≡◌}
use lib.ListN.{length, drop}
use Rattle.xml.specs.Steps.{starts_with}
use Rattle.xml_parts.proofs.steps.starts.Given as goal

abbrev pub invariant-loop-k : goal.invariant-loop-k
invariant-loop-k l = (0 < l.k → l.at + l.k ≤ length l.text) × (starts_with (drop l.k l.word) (drop (l.at + l.k) l.text) ≡ starts_with l.word (drop l.at l.text))
