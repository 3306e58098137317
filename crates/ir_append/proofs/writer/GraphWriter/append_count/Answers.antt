-- `ir_append::writer::GraphWriter::append_count` meets its contract: a recipe of no texts gives a row of no texts. Assumes nothing.
use mathlib.Core.Path.{refl}
use Rattle.ir_append.specs.Spelled.{spelled_texts, recipe_row, orderly}
use Rattle.ir_append.proofs.writer.GraphWriter.append_count.Goals as goal

pub append_spelled-requires : goal.append_spelled-requires
unfolding orderly
append_spelled-requires c = refl

pub returns : goal.returns
unfolding recipe_row spelled_texts
returns c = rw (← c.halves-a.ensures.0, ← c.halves-a.ensures.1) c.append_spelled.ensures
