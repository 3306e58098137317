-- The schema sheet of a state, in buffers of the given lengths. Paper 01, "Schema sheet".
--     state_fits     the state's rows and names have room
--     bare_sheet_of       the sheet
use Rattle.std.specs.Prelude.{ℕ, Bool}
use Rattle.sheet.specs.Rows.{Sheet, sheet_of_rows}
use Rattle.sheet.specs.Lengths.{fits}
use Rattle.xsd_types.specs.State.{State}
use Rattle.xsd_types.specs.Row0.{row0_ten}
use Rattle.xsd_types.specs.Rows.{rows_of, row0, rows_used, names_used}

unfoldable pub state_fits : ℕ → ℕ → State → Bool
state_fits rows_length names_length s = fits (rows_used s) (names_used s) rows_length names_length

unfoldable pub bare_sheet_of : State → ℕ → ℕ → Sheet
bare_sheet_of s rows_length names_length = sheet_of_rows (row0_ten (row0 s)) (rows_of s) rows_length names_length
