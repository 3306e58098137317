-- The graph sheet, in buffers of the given lengths. Paper 01, "Graph sheet".
--     graph_fits     the graph's rows and names have room
--     graph_sheet    the sheet
use Rattle.std.specs.Prelude.{ℕ, Bool}
use Rattle.sheet.specs.Rows.{Sheet, sheet_of_rows}
use Rattle.sheet.specs.Lengths.{fits}
use Rattle.ir_types.specs.Types.{TypeGraph}
use Rattle.ir_types.specs.Row0.{graph_row0_ten}
use Rattle.ir_types.specs.Rows.{rows_of, row0, rows_used, names_used}

unfoldable pub graph_fits : ℕ → ℕ → TypeGraph → Bool
graph_fits rows_length names_length g = fits (rows_used g) (names_used g) rows_length names_length

unfoldable pub graph_sheet : TypeGraph → ℕ → ℕ → Sheet
graph_sheet g rows_length names_length = sheet_of_rows (graph_row0_ten (row0 g)) (rows_of g) rows_length names_length
