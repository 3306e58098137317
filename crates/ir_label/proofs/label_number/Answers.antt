-- `ir_label::label_number` meets its contract: the number of what was found is the label's. Assumes nothing.
use Rattle.std.proofs.Common.{sym, ◌∙◌}
use Rattle.ir_label.proofs.Laws.Spots.{spot-number}
use Rattle.ir_label.proofs.label_number.Goals as goal

pub returns : goal.returns
returns c = c.returned_number.ensures ∙ sym (spot-number _ c.find_label.result c.find_label.ensures)
