-- `rows::numbers::has_room` meets its contract: the code is the definition, test by test. Assumes nothing.
use mathlib.Core.Path.{refl}
use Rattle.sheet.specs.Lengths.{fits}
use Rattle.rows.proofs.numbers.has_room.Goals as goal

pub returns : goal.returns
unfolding fits
returns c = refl
