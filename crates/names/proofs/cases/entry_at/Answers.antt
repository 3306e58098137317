-- `names::cases::entry_at` meets its contract: the table of the code is that of the definitions. Assumes nothing.
use Rattle.names.specs.Cases.{case_table}
use Rattle.names.proofs.cases.entry_at.Goals as goal

pub returns : goal.returns
unfolding case_table
returns c = c.entry_of.ensures
