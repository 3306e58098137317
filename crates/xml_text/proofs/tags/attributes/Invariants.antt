-- `xml_text::tags::attributes` meets its contract. The loop's invariant: the parts from i on end the tag as all of them do, with turns enough for the bytes left; the
-- keys so far are the names of the slots, and their numbers are stored. The measure is how much is left. Assumes nothing.
use Prim.Native.Nat.{ℕ, ◌+◌, ◌*◌, ◌-◌, ◌<◌, ◌≤◌}
use mathlib.Core.Path.{◌≡◌}
use mathlib.Core.List.{List}
use lib.ListN.{length, drop}
use lib.Seq.{sets}
use Rattle.xml.specs.Tape.{AttributePairs, attribute_marks}
use Rattle.xml.specs.Tags.{attributes_from, attributes}
use Rattle.xml_text.specs.Answers.{names_up_to}
use Rattle.xml_text.proofs.tags.attributes.Given as goal

abbrev pub invariant-loop-part : goal.invariant-loop-part
invariant-loop-part l =
    (turns : ℕ) × (xs : List AttributePairs) × (length l.text - l.i < turns)
    × (attributes_from turns (names_up_to l.text l.keys l.count) xs l.i (drop l.i l.text) ≡ attributes l.at (drop l.at l.text)) × (l.count ≡ length xs)
    × (l.marks ≡ sets l.initial.marks l.from (attribute_marks xs)) × (l.at + 3 * l.count ≤ l.i) × (length l.keys ≡ length l.initial.keys) × (length l.marks ≡ length l.initial.marks)

abbrev pub decreases-loop-part : goal.decreases-loop-part
decreases-loop-part l = length l.text - l.i
