-- A sheet's part and what is written of it.
--     rows_of_part     its rows from a place on
--     part_text     the schema's text: the namespace of row 1, and the rows behind it
use Rattle.std.specs.Prelude.{ℕ, List}
use Rattle.text.specs.Text.{Text}
use Rattle.sheet.specs.Rows.{Row}
use Rattle.xsd_types.specs.Back.{text0}
use Rattle.xsd_types.specs.Places.{row_at, rows_from}
use Rattle.rows.specs.declared.part.SheetPart.{SheetPart}
use Rattle.xsd_write.specs.Texts.{schema_rows}

abbrev pub rows_of_part : SheetPart → ℕ → List Row
rows_of_part part place = rows_from part.rows.now part.names.now place part.end

abbrev pub part_text : SheetPart → Text
part_text part = schema_rows (text0 (row_at part.rows.now part.names.now 1)) (rows_of_part part 2)
