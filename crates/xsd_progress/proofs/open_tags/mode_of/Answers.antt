-- `xsd_progress::open_tags::mode_of` meets its contract, by computation. Assumes nothing.
use mathlib.Core.Path.{refl}
use Rattle.xsd_progress.specs.Change.{mode_with}
use Rattle.xsd_progress.proofs.open_tags.mode_of.Goals as goal

pub returns : goal.returns
unfolding mode_with
returns c = refl
