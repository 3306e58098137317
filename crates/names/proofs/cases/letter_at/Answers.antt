-- `names::cases::letter_at` meets its contract: the place in the table is the definition's. Assumes nothing.
use Rattle.std.proofs.Common.{◌∙◌}
use Rattle.names.specs.Cases.{case_of}
use Rattle.names.proofs.cases.letter_at.Goals as goal

pub returns : goal.returns
unfolding case_of
returns c = c.entry_at.ensures ∙ rw (c.saturating_sub.ensures, c.saturating_sub-2.ensures)
