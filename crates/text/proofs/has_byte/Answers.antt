-- `text::has_byte` meets its contract. Assumes nothing.
use Rattle.std.proofs.Common.{◌∙◌}
use Rattle.text.proofs.Laws.Std.{contains_is}
use Rattle.text.proofs.has_byte.Goals as goal

pub returns : goal.returns
returns c = c.contains.ensures.value ∙ contains_is c.args.c c.args.s.now
