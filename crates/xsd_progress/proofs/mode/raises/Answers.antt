-- `xsd_progress::mode::raises` meets its contract: the code is the definition, test by test. Assumes nothing.
use mathlib.Core.Bool.{Bool, not, ◌&&◌, ◌||◌}
use mathlib.Core.Path.{ap}
use lib.Dec.{eqb, leb}
use Rattle.xsd_actions.specs.Actions.{raises}
use Rattle.xsd_progress.proofs.mode.raises.Goals as goal

pub returns : goal.returns
unfolding raises
returns c =
    let a = c.args in
    ap (λ (b : Bool). leb 2 a.context || (eqb a.context 1 && not b && a.by_standard)) c.opens_type.ensures
