-- `xsd_replace::spot::text_length` meets its contract: the pair of the text is read. Assumes nothing.
use mathlib.Core.Path.{◌∙◌}
use Rattle.xsd_replace.proofs.Laws.Spot.{spot-numbers}
use Rattle.xsd_replace.proofs.spot.text_length.Goals as goal

pub returns : goal.returns
returns c names used x h = c.pair_at-text.ensures.1 ∙ (spot-numbers h).long
