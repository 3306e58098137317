-- `xml_text::root::inside` meets its contract. The loop's invariant: the events so far in front of those from here on are all events, with turns enough for the bytes left;
-- the numbers of those so far are stored. The measure is how much is left. Assumes nothing.
use Prim.Native.Nat.{ℕ, suc, ◌+◌, ◌-◌, ◌<◌, ◌≤◌}
use mathlib.Core.Path.{◌≡◌}
use mathlib.Core.List.{List}
use lib.ListN.{length, drop}
use lib.Seq.{sets}
use Rattle.xml.specs.Tape.{TapeEvent, tape_marks}
use Rattle.xml.specs.Root.{add_events, inside}
use Rattle.xml_text.specs.Answers.{names_up_to}
use Rattle.xml_text.proofs.root.inside.Given as goal

abbrev pub invariant-loop-here : goal.invariant-loop-here
invariant-loop-here l =
    (turns : ℕ) × (events : List TapeEvent) × (length l.text - l.here.at < turns)
    × (add_events events (inside turns (names_up_to l.text l.slots l.here.count) l.here.at (drop l.here.at l.text)) ≡ inside (suc (length (drop l.initial.here.at l.text)))
    (names_up_to l.text l.initial.slots l.initial.here.count) l.initial.here.at (drop l.initial.here.at l.text))
    × (l.here.used ≡ l.initial.here.used + length (tape_marks events)) × (l.marks ≡ sets l.initial.marks l.initial.here.used (tape_marks events))
    × (length l.slots ≡ length l.initial.slots) × (l.here.at ≤ length l.text) ×
    (length l.marks ≡ length l.initial.marks)

abbrev pub decreases-loop-here : goal.decreases-loop-here
decreases-loop-here l = length l.text - l.here.at
