-- A sheet that is the packing of rows, with one row more.
--     RowRoom       there is room for a row more, whose texts have so many bytes
--     Appended      there is one row more
use Rattle.std.specs.Prelude.{ℕ, ◌+◌, ◌*◌, ◌≤◌, List, [], ◌∷◌, ◌++◌, length}
use Rattle.sheet.specs.Rows.{Row}
use Rattle.rows.specs.declared.writer.SheetWriter.{SheetWriter}
use Rattle.rows.specs.Writer.{SameBuffers, Held}

pub record RowRoom (w : SheetWriter) (bytes : ℕ) : Type 0 where
  pub rows : 10 * (w.used.rows + 1) ≤ length w.rows.now
  pub names : w.used.names + bytes ≤ length w.names.now

pub record Appended (r : Row) (w w' : SheetWriter) : Type 0 where
  pub same : SameBuffers w w'
  pub holds : (z : List ℕ) (rs : List Row) → Held w z rs → Held w' z (rs ++ r ∷ [])
