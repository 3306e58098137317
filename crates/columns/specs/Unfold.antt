-- One name that unfolds every definition of this crate, for examples by computation.
use Rattle.sheet.specs.Unfold.{computes as sheets}
use Rattle.columns.specs.Columns.{minus, plus, up_to, changed, column_at, columns_of, restored, row_number_at, rows_of_columns}
use Rattle.columns.specs.Call.{same_lengths, turned}

unfoldable pub computes : Unit {0}
unfolding sheets minus plus up_to changed column_at columns_of restored row_number_at rows_of_columns same_lengths turned
computes = tt
