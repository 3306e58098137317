-- `ir_append::row0::row0_of` meets its contract: the array is the row's ten numbers in their order. Assumes nothing.
use mathlib.Core.Path.{refl}
use Rattle.sheet.specs.Rows.{numbers}
use Rattle.ir_append.proofs.row0.counted_row0.Goals as goal

pub returns : goal.returns
unfolding numbers
returns c = refl
