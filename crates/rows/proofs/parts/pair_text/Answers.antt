-- `rows::parts::pair_text` meets its contract: the pair's two numbers are read, and the part that they name is taken. Assumes nothing.
use Rattle.sheet.specs.Rows.{text_at}
use Rattle.rows.proofs.parts.pair_text.Goals as goal

pub returns : goal.returns
unfolding text_at
returns c = rw (c.part_of.ensures, c.pair_at-pair.ensures.0, c.pair_at-pair.ensures.1)
