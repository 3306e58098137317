-- The steps of a writing.
--     wrote         what a writing leaves, as one value
--     unheld_of      what the search for a value that XML cannot hold answers, as the definition's answer
--     held_or_not     22, or the text where it has room; finished: 12 before them
use Rattle.std.specs.Prelude.{Option as Answered, Some, None, ℕ, Bool, List, if◌then◌else◌}
use Rattle.std.proofs.Math.Option.{Option, some, none}
use Rattle.text.specs.Text.{Text}
use Rattle.sheet.specs.Lengths.{Answer}
use Rattle.sheet.specs.Returned.{no_root, unheld_value}
use Rattle.xsd_written.specs.Call.{Wrote, zeroed, text_written}

abbrev pub wrote : Answer → List ℕ → Wrote
wrote answer text = record { number = answer.number; place = answer.place; text = text }

abbrev pub unheld_of : Answered ℕ → Option ℕ
unheld_of (Some place) = some place
unheld_of None = none

abbrev pub held_or_not : Option ℕ → Text → ℕ → Wrote
held_or_not (some place) text lent = zeroed unheld_value place lent
held_or_not none text lent = text_written text lent

unfoldable pub finished : Bool → Option ℕ → Text → ℕ → Wrote
finished root unheld text lent = if root then held_or_not unheld text lent else zeroed no_root 0 lent
