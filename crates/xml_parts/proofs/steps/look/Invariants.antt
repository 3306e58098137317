-- `xml_parts::steps::look` meets its contract. The loop's invariant: the search goes on where it does from the start. Assumes nothing.
use mathlib.Core.Path.{◌≡◌}
use lib.ListN.{drop}
use Rattle.xml.specs.Steps.{until}
use Rattle.xml_parts.proofs.steps.look.Given as goal

abbrev pub invariant-loop-i : goal.invariant-loop-i
invariant-loop-i l = until l.word l.i (drop l.i l.text) ≡ until l.word l.from (drop l.from l.text)
