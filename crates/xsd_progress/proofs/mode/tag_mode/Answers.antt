-- `xsd_progress::mode::tag_mode` meets its contract: its parts are those of the mode after the decision's action. Assumes nothing.
use mathlib.Core.Path.{ap, ◌∙◌}
use Rattle.xsd_actions.specs.Actions.{Action, tag_mode}
use Rattle.xsd_progress.specs.Modes.{action_of}
use Rattle.xsd_progress.proofs.Laws.Modes.{mode-parts, action-said}
use Rattle.xsd_progress.proofs.mode.tag_mode.Goals as goal

pub returns : goal.returns
returns c x e =
    let a = c.args in
    mode-parts a.by_standard a.start (action_of a.d) a.m c.context_after.ensures c.raises.ensures c.nesting_after.ensures c.root_after.ensures c.flag_after.ensures
    ∙ ap (λ (y : Action). tag_mode a.by_standard a.start y a.m) (action-said a.d x e)
