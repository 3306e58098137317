-- `xsd_good::count::finished_place` meets its contract: row 0's context and rows used say where the finished items end. Assumes nothing.
use mathlib.Core.Path.{ap, ◌∙◌}
use Rattle.xsd_types.specs.Row0.{Row0}
use Rattle.xsd_good.specs.End.{finished_end}
use Rattle.xsd_good.proofs.count.finished_place.Goals as goal

pub finished_end-requires : goal.finished_end-requires
finished_end-requires c = rw (ap (λ (z : Row0). z.rows_used) c.row0_at-z.ensures) c.requires.1

pub returns : goal.returns
returns c =
    let rows = c.args.rows.now in
    record { place = c.finished_end.ensures.place ∙ ap (λ (z : Row0). finished_end rows z.context z.rows_used) c.row0_at-z.ensures; words = c.finished_end.ensures.words }
