-- `rows::used::pair_is_text` meets its contract. Assumes nothing.
use Rattle.sheet.specs.Rows.{text_at}
use Rattle.rows.proofs.used.pair_is_text.Goals as goal

pub returns-else-not-used : goal.returns-else-not-used
unfolding text_at
returns-else-not-used g c = rw (c.if-not-used.false, ← c.part_of.ensures) c.is_text.ensures
