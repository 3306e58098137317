-- `program::run::on_input` meets its contract: where it is Ok, the work was. Assumes nothing.
use Rattle.std.proofs.Common.{Ok, Err, OnOk, Result}
use Rattle.program.proofs.run.on_input.Goals as goal

-- what holds of every result holds where it is Ok
of-ok : {E P : Type 0} (r : Result (Unit {0}) E) → P → OnOk r P
of-ok (Ok u) p = p
of-ok (Err e) p = tt

pub returns : goal.returns
returns g c = of-ok c.flush-written.result (_, _, _, c.in_ok-worked.ensures)
