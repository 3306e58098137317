-- A graph sheet written as a whole, into a sheet of zeros: the rows behind row 0, then row 0.
--     ClearedBuffers  a sheet of zeros, of lengths that the paper allows
--     Begins        a writer into such a sheet: row 0 is used, and nothing else
--     Closes        row 0 is put
--     whole_sheet    the sheet of these rows, with so many root elements and types
use Rattle.std.specs.Prelude.{ℕ, ◌+◌, ◌≤◌, ◌≡◌, List, length, replicate}
use Rattle.sheet.specs.Limits.{least_rows, rows_limit, names_limit}
use Rattle.sheet.specs.Rows.{Row, Sheet, names_of, sheet_of_rows}
use Rattle.rows.specs.Packing.{Row0Put}
use Rattle.ir_types.specs.Row0.{graph_row0_of, graph_row0_ten}
use Rattle.ir_append.specs.declared.writer.GraphWriter.{GraphWriter}
use Rattle.ir_append.specs.Row0.{counted_row0}

pub record ClearedBuffers (rows names : List ℕ) : Type 0 where
  pub rows_zero : rows ≡ replicate (length rows) 0
  pub names_zero : names ≡ replicate (length names) 0
  pub some_rows : least_rows ≤ length rows
  pub few_rows : length rows ≤ rows_limit
  pub few_names : length names ≤ names_limit

pub record Begins (rows names : List ℕ) (w : GraphWriter) : Type 0 where
  pub rows_are : w.rows.now ≡ rows
  pub names_are : w.names.now ≡ names
  pub used : w.used ≡ record { rows = 1; names = 0 }

-- the answer is how many rows are used
pub record Closes (w : GraphWriter) (roots types : ℕ) (w' : GraphWriter) (place : ℕ) : Type 0 where
  pub same_rows : w'.rows.ghost_name ≡ w.rows.ghost_name
  pub same_names : w'.names.ghost_name ≡ w.names.ghost_name
  pub row0 : Row0Put w.rows.now (counted_row0 w.used roots types) w'.rows.now
  pub names_kept : w'.names.now ≡ w.names.now
  pub place_is : place ≡ w.used.rows

abbrev pub whole_sheet : List Row → ℕ → ℕ → ℕ → ℕ → Sheet
whole_sheet rs roots types rows_length names_length =
    sheet_of_rows (graph_row0_ten (graph_row0_of (1 + length rs) (length (names_of rs)) roots types)) rs rows_length names_length
