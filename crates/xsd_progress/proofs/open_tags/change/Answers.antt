-- `xsd_progress::open_tags::change` meets its contract: root seen changes none of the other three, and the event of a number is that of its kind. Assumes nothing.
use mathlib.Core.Path.{ap, subst}
use native.Mathlib.Omega.{arith}
use Rattle.xsd_parser.specs.Kinds.{kind_number}
use Rattle.xsd_actions.specs.declared.Mode.{Mode}
use Rattle.xsd_progress.specs.Change.{mode_with, ModeAfter}
use Rattle.xsd_progress.proofs.Laws.Change.{mode-as, changed}
use Rattle.xsd_progress.proofs.open_tags.change.Goals as goal

pub mode_after-m-requires : goal.mode_after-m-requires
unfolding mode_with
mode_after-m-requires c = omega (arith, ap (λ (m : Mode). m.nesting) c.mode_of.ensures)

pub returns : goal.returns
returns c =
    let a = c.args.a in
    changed (mode-as c.kind_of-kind.ensures (subst
    (λ (m : Mode). ModeAfter a.by_standard (kind_number c.kind_of-kind.result) a.decision m c.mode_after-m.result) c.mode_of.ensures c.mode_after-m.ensures))
