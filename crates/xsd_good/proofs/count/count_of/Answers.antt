-- `xsd_good::count::count_of` meets its contract: the place is where the finished items end. Assumes nothing.
use native.Mathlib.Omega.{arith}
use Rattle.xsd_good.proofs.Laws.Bare.{bare-used}
use Rattle.xsd_good.proofs.count.count_of.Goals as goal

pub finished_place-end-requires : goal.finished_place-end-requires
finished_place-end-requires c =
    let u = bare-used c.args.rows.now c.args.names.now c.requires in
    (omega (arith, u.0), u.1)

pub count_to-requires : goal.count_to-requires
count_to-requires c =
    let p = c.finished_place-end.ensures in
    (c.requires, record { place = p.place; words = p.words })
