-- `name_index::Heads::spelled_at` meets its contract. Assumes nothing.
use Rattle.name_index.specs.Index.{spelled_name_at}
use Rattle.name_index.proofs.Heads.spelled_at.Goals as goal

pub returns : goal.returns
unfolding spelled_name_at
returns c = rw c.name_at.ensures
