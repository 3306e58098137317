-- `xml_parts::steps::many` meets its contract. The loop's invariant: the run goes on where it does from the start. Assumes nothing.
use mathlib.Core.Path.{◌≡◌}
use lib.ListN.{drop}
use Rattle.xml.specs.Steps.{many}
use Rattle.xml_parts.specs.Answers.{class_of}
use Rattle.xml_parts.proofs.steps.many.Given as goal

abbrev pub invariant-loop-i : goal.invariant-loop-i
invariant-loop-i l = (l.end ≡ l.i) × (many (class_of l.class) l.i (drop l.i l.text) ≡ many (class_of l.class) l.at (drop l.at l.text))
