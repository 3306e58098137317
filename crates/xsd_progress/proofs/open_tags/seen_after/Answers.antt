-- `xsd_progress::open_tags::seen_after` meets its contract: a close leaves root seen. Assumes nothing.
use mathlib.Core.Logic.{⊎_elim}
use mathlib.Core.Path.{ap}
use native.Mathlib.Omega.{arith}
use Rattle.xsd_parser.specs.Kinds.{kind_number}
use Rattle.xsd_progress.proofs.Laws.Change.{seen-close, seen-tag}
use Rattle.xsd_progress.proofs.open_tags.seen_after.Goals as goal

pub returns-in-Start : goal.returns-in-Start
returns-in-Start c =
    ⊎_elim (λ s. rw s (seen-tag (λ e. omega (arith, e)) c.root_after.ensures))
    (λ s. rw s (seen-tag (λ e. omega (arith, e)) c.root_after.ensures)) c.in-Start.is

pub returns-in-Close : goal.returns-in-Close
returns-in-Close c = seen-close (ap kind_number c.in-Close.is)
