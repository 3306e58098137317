-- meets its contract. Assumes nothing.
use mathlib.Core.Path.{ap, ◌∙◌}
use borrow.Author.Tests.{lt-ltb}
use Rattle.ir_types.specs.Form.{is_type_tag}
use Rattle.ir_reduce.specs.Marks.{head_at}
use Rattle.ir_reduce.proofs.reach.is_behind.Goals as goal

pub returns-then-p-row : goal.returns-then-p-row
unfolding head_at
returns-then-p-row c = rw (lt-ltb _ _ c.if-p-row.true) (c.is_type.ensures ∙ ap is_type_tag c.tag.ensures)
