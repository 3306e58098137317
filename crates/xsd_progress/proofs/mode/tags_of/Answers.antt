-- `xsd_progress::mode::tags_of` meets its contract, kind by kind. Assumes nothing.
use mathlib.Core.Path.{refl}
use native.Mathlib.Omega.{arith}
use Rattle.xsd_parser.specs.Step.{tags_after}
use Rattle.xsd_progress.specs.Answers.{tags}
use Rattle.xsd_progress.proofs.Laws.Kinds.{as-start, as-close, as-empty}
use Rattle.xsd_progress.proofs.mode.tags_of.Goals as goal

pub returns-in-Start : goal.returns-in-Start
returns-in-Start c t = rw (c.in-Start.is, as-start 1 t refl) (c.start_tags.ensures t)

pub returns-in-Empty : goal.returns-in-Empty
unfolding tags tags_after
returns-in-Empty c t = rw (c.in-Empty.is, as-empty 2 t (λ e. omega (arith, e)) (λ e. omega (arith, e)))

pub returns-in-Close : goal.returns-in-Close
returns-in-Close c t = rw (c.in-Close.is, as-close 3 t refl) c.close_tags.ensures
