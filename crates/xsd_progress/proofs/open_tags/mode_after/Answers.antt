-- `xsd_progress::open_tags::mode_after` meets its contract, kind by kind. Assumes nothing.
use mathlib.Core.Path.{ap}
use native.Mathlib.Omega.{arith}
use Rattle.xsd_parser.specs.Kinds.{kind_number}
use Rattle.xsd_progress.proofs.Laws.Change.{mode-close, mode-tag}
use Rattle.xsd_progress.proofs.open_tags.mode_after.Goals as goal

pub returns-in-Start : goal.returns-in-Start
returns-in-Start c = rw c.in-Start.is (mode-tag (λ e. omega (arith, e)) c.tag_mode.ensures)

pub returns-in-Empty : goal.returns-in-Empty
returns-in-Empty c = rw c.in-Empty.is (mode-tag (λ e. omega (arith, e)) c.tag_mode-in-Empty.ensures)

pub returns-in-Close : goal.returns-in-Close
returns-in-Close c = mode-close (ap kind_number c.in-Close.is) c.close_mode.ensures
