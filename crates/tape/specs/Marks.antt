-- One event's marks, cut out of all marks. Paper 01: "an event view keeps the text and that event's marks together".
--     marks_of_tag marks pairs count     the marks of a tag with so many attributes whose name's pair stands at place `pairs`
use Rattle.std.specs.Prelude.{ℕ, ◌*◌, List, take, drop}
use Rattle.xsd_parser.specs.Tape.{pair_count}

unfoldable pub marks_of_tag : List ℕ → ℕ → ℕ → List ℕ
marks_of_tag marks pairs count = take (2 * pair_count count) (drop pairs marks)
