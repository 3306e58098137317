-- `columns::same_lengths` meets its contract: the definition's two tests. Assumes nothing.
use Rattle.columns.specs.Call.{same_lengths}
use Rattle.columns.proofs.same_lengths.Goals as goal

pub returns : goal.returns
unfolding same_lengths
returns c = rw c.rows_length.ensures
