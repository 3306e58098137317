-- Rows added to a sheet that is the packing of rows. What holds of every list of rows that the sheet was the packing of is a record's field, so that a
-- caller names it.
--     Packed        the sheet is the packing of the rows rs behind the ten numbers z
--     RowsAdded     there are so many rows more
--     Short         they have no room
--     Grows         what a writer that adds the rows `more` answers and leaves
use Rattle.std.specs.Prelude.{ℕ, Option, MatchOption, ◌+◌, ◌≡◌, false, List, ◌++◌, length}
use Rattle.sheet.specs.Rows.{Row, names_of}
use Rattle.sheet.specs.Lengths.{fits}
use Rattle.rows.specs.Packing.{Holds}
use Rattle.ir_append.specs.declared.writer.GraphWriter.{GraphWriter}

abbrev pub Packed : GraphWriter → List ℕ → List Row → Type 0
Packed w z rs = Holds w.rows.now w.names.now w.used z rs

pub record RowsAdded (w : GraphWriter) (more : List Row) (w' : GraphWriter) : Type 0 where
  pub holds : (z : List ℕ) (rs : List Row) → Packed w z rs → Packed w' z (rs ++ more)

-- "graph needs more rows or names than lent"
pub record Short (w : GraphWriter) (more : List Row) : Type 0 where
  pub short : (z : List ℕ) (rs : List Row) → Packed w z rs → fits (1 + length (rs ++ more)) (length (names_of (rs ++ more))) (length w.rows.now) (length w.names.now) ≡ false

-- the writer still holds the same buffers, of the same lengths
pub record Grows (w : GraphWriter) (more : List Row) (w' : GraphWriter) (answer : Option (Unit {0})) : Type 0 where
  pub same_rows : w'.rows.ghost_name ≡ w.rows.ghost_name
  pub same_names : w'.names.ghost_name ≡ w.names.ghost_name
  pub rows_length : length w'.rows.now ≡ length w.rows.now
  pub names_length : length w'.names.now ≡ length w.names.now
  pub added : MatchOption answer (Short w more) (λ _. RowsAdded w more w')
