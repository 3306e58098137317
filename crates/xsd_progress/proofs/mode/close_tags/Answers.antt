-- `xsd_progress::mode::close_tags` meets its contract: a number that is not 0 is one more than the number before it. Assumes nothing.
use mathlib.Core.Path.{sym, ap}
use Rattle.xsd_parser.specs.Step.{closed, tags_after}
use Rattle.xsd_progress.specs.Answers.{tags}
use Rattle.xsd_progress.proofs.Laws.Modes.{closed-more}
use Rattle.xsd_progress.proofs.mode.close_tags.Goals as goal

pub returns-then-open_tags-eq0 : goal.returns-then-open_tags-eq0
unfolding tags tags_after closed
returns-then-open_tags-eq0 c = sym (ap closed c.if-open_tags-eq0.true)

pub returns-else-open_tags-eq0 : goal.returns-else-open_tags-eq0
unfolding tags tags_after
returns-else-open_tags-eq0 c = sym (closed-more c.args.open_tags c.if-open_tags-eq0.false)
