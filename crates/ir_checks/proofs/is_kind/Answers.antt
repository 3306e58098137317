-- `ir_checks::is_kind` meets its contract: the tests are the definition's. Assumes nothing.
use Rattle.ir_rows.specs.Types.{is_simple, is_complex}
use Rattle.ir_checks.specs.Kinds.{is_kind}
use Rattle.ir_checks.proofs.is_kind.Goals as goal

pub returns-in-Simple : goal.returns-in-Simple
unfolding is_kind is_simple
returns-in-Simple c = rw c.in-Simple.is

pub returns-in-Complex : goal.returns-in-Complex
unfolding is_kind is_complex
returns-in-Complex c = rw c.in-Complex.is c.in_range.ensures
