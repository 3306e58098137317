-- `xsd_write::part::Row::at` meets its contract: the ten numbers are the row's. Assumes nothing.
use mathlib.Core.Path.{refl}
use Rattle.xsd_write.proofs.Laws.Rows.{row_read}
use Rattle.xsd_write.proofs.part.Row.at.Goals as goal

pub returns : goal.returns
returns c =
    let part = c.args.part.now in
    record { row = row_read part.rows.now part.names.now c.args.place c.ten.result c.ten.ensures; names = refl }
