-- Small tapes through the definitions, by computation. Here the printed specimen. Below: Tapes writes tapes as tags; Lengths has the numbers 0, 1
-- and 2, Records 3, 4 and 5, Counts 6, 7 and 8 and the order of refusals, Attributes 9 and 10, Room 11; EventNumbers has order 5's; Schemas, SimpleTypes, ComplexTypes and
-- SimpleContents say what an event does; Annotations has order 3, Children the direct children of a schema.
use Rattle.std.specs.Prelude.{ℕ, ◌≡◌, refl, List, [], ◌∷◌}
use Rattle.text.specs.Text.{bytes}
use Rattle.xsd_types.specs.Examples.Sheets.{line, filled_sheet, blank}
use Rattle.xsd_parser.specs.Read.{read}
use Tapes.{Tag, text_of, tags_marks, read_gives, taped}
pub mod Tapes
mod Lengths
mod Records
mod Counts
mod Attributes
mod Room
mod EventNumbers
mod Schemas
mod SimpleTypes
mod ComplexTypes
mod SimpleContents
mod Annotations
mod Children

-- the printed specimen
specimen_marks : List ℕ
specimen_marks = 1 ∷ 0 ∷ 0 ∷ 6 ∷ 2 ∷ 2 ∷ 6 ∷ 7 ∷ 13 ∷ 4 ∷ 17 ∷ 1 ∷ 18 ∷ 4 ∷ 22 ∷ 1 ∷ 3 ∷ 0 ∷ []

specimen_tags : List Tag
specimen_tags = Tag.start "schema" [] ∷ Tag.empty "element" (("name", "D") ∷ ("type", "T") ∷ []) ∷ Tag.close ∷ []

-- the tags stand for that text and those marks
specimen-text : text_of specimen_tags ≡ bytes "schemaelementnameDtypeT"
unfolding specimen_tags taped
specimen-text = refl

specimen-marks : tags_marks 0 specimen_tags ≡ specimen_marks
unfolding specimen_tags specimen_marks taped
specimen-marks = refl

-- "read 0 3", and what the sheet holds: one element behind an empty namespace, context 0, three events done
specimen-read :
    read (blank 40 6) (bytes "schemaelementnameDtypeT") specimen_marks
    ≡ read_gives 0 3 (filled_sheet 40 6 (line 0 3 2 0 0 1 3 0 0 0 ∷ line 1 0 0 0 0 0 0 0 0 0 ∷ line 2 0 1 1 1 0 0 0 0 1 ∷ []) "DT")
unfolding specimen_marks taped
specimen-read = refl
