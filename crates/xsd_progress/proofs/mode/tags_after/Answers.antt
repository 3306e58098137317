-- `xsd_progress::mode::tags_after` meets its contract: the event of a number is that of its kind. Assumes nothing.
use mathlib.Core.Path.{ap, ◌∙◌}
use Rattle.xsd_parser.specs.Event.{Event}
use Rattle.xsd_parser.specs.Step.{tags_after}
use Rattle.xsd_progress.proofs.mode.tags_after.Goals as goal

pub returns : goal.returns
returns c t = c.tags_of.ensures t ∙ ap (λ (e : Event). tags_after e c.args.open_tags) (c.kind_of.ensures t)
