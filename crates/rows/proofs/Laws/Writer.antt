-- A writer that has the buffers that it had. Assumes nothing.
use mathlib.Core.Path.{refl, ◌∙◌}
use Rattle.rows.specs.declared.writer.SheetWriter.{SheetWriter}
use Rattle.rows.specs.Writer.{SameBuffers}

pub same_itself : (w : SheetWriter) → SameBuffers w w
same_itself w = record { rows = refl; names = refl; rows_length = refl; names_length = refl }

pub same-then : {u v w : SheetWriter} → SameBuffers u v → SameBuffers v w → SameBuffers u w
same-then p q =
    record { rows = q.rows ∙ p.rows; names = q.names ∙ p.names; rows_length = q.rows_length ∙ p.rows_length; names_length = q.names_length ∙ p.names_length }
