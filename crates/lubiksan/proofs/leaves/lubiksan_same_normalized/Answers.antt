-- `lubiksan::leaves::lubiksan_same_normalized` meets its contract: the bit is that of the comparison. Assumes nothing.
use mathlib.Core.Path.{ap, ◌∙◌}
use Rattle.sheet.specs.Rows.{bit}
use Rattle.lubiksan.proofs.leaves.lubiksan_same_normalized.Goals as goal

pub returns : goal.returns
unfolding bit
returns c = c.from.ensures ∙ ap bit c.same_normalized.ensures
