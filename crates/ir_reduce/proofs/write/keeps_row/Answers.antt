-- `ir_reduce::write::keeps_row` meets its contract: the code is the definition. Assumes nothing.
use mathlib.Core.Path.{◌∙◌, sym}
use Rattle.ir_reduce.specs.Places.{keeps}
use Rattle.ir_reduce.proofs.write.keeps_row.Goals as goal

pub returns-then-is_type : goal.returns-then-is_type
unfolding keeps
returns-then-is_type c = rw (sym c.is_type.ensures ∙ c.if-is_type.true)

pub returns-else-is_type : goal.returns-else-is_type
unfolding keeps
returns-else-is_type c = rw (sym c.is_type.ensures ∙ c.if-is_type.false)
