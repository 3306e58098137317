-- A sheet that is written, of which the packing is known.
--     SameBuffers   a writer has the buffers that it had, as long as they were
--     Held          the sheet is the packing of the rows rs behind the ten numbers z
use Rattle.std.specs.Prelude.{ℕ, ◌≡◌, List, length}
use Rattle.sheet.specs.Rows.{Row}
use Rattle.rows.specs.declared.writer.SheetWriter.{SheetWriter}
use Rattle.rows.specs.Packing.{Holds}

pub record SameBuffers (before after : SheetWriter) : Type 0 where
  pub rows : after.rows.ghost_name ≡ before.rows.ghost_name
  pub names : after.names.ghost_name ≡ before.names.ghost_name
  pub rows_length : length after.rows.now ≡ length before.rows.now
  pub names_length : length after.names.now ≡ length before.names.now

abbrev pub Held : SheetWriter → List ℕ → List Row → Type 0
Held w z rs = Holds w.rows.now w.names.now w.used z rs
