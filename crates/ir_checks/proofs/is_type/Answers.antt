-- `ir_checks::is_type` meets its contract: one kind or the other. Assumes nothing.
use Rattle.ir_rows.specs.Types.{is_type}
use Rattle.ir_checks.specs.Kinds.{is_kind}
use Rattle.ir_checks.proofs.is_type.Goals as goal

pub returns : goal.returns
unfolding is_type is_kind
returns c = rw (c.is_kind.ensures, c.is_kind-2.ensures)
