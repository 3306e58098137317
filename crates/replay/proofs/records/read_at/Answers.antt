-- `replay::records::read_at` meets its contract: the test is that of the whole text. Assumes nothing.
use mathlib.Core.Path.{sym, ◌∙◌}
use Rattle.replay.proofs.records.read_at.Goals as goal

pub record_at-requires : goal.record_at-requires
record_at-requires c = λ plain. sym c.is_plain.ensures ∙ plain
