-- `ir_row::row_reference` meets its contract: a row that refers to a type has its second text looked up. Assumes nothing.
use mathlib.Core.Path.{sym, ◌∙◌}
use mathlib.Core.Bool.{false≢true}
use Rattle.ir_row.proofs.row_reference.Goals as goal

pub returns-else-refers_to : goal.returns-else-refers_to
returns-else-refers_to c = λ h. absurd (false≢true (sym c.if-refers_to.false ∙ c.refers_to.ensures ∙ h))
