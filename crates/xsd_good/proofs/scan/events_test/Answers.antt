-- `xsd_good::scan::events_test` meets its contract: the test is asked at each row's place. Assumes nothing.
use Prim.Native.Nat.{ℕ, ◌-◌}
use mathlib.Core.Bool.{Bool, true, ◌&&◌}
use mathlib.Core.Path.{refl, ◌∙◌}
use Rattle.std.proofs.Common.{rules, tests}
use Rattle.std.proofs.lemmas.Iterator.{YieldsList-from_range}
use Rattle.std.proofs.lemmas.Iterator.Consumers.{fold_from_yields_List}
use Rattle.xsd_good.proofs.Laws.Scan.{c_passes, events-all}
use Rattle.xsd_good.proofs.scan.events_test.Goals as goal

pub returns : goal.returns
returns c =
    let a = c.args in
    fold_from_yields_List _ (λ (b : Bool) (k : ℕ). b && c_passes a.events a.part.now.rows.now k) true c.fold.result c.fold.ensures.ran
    (YieldsList-from_range 1 a.part.now.end (a.part.now.end - 1) refl refl) (λ b p r q k. search (rules, tests))
    ∙ events-all a.events a.part.now.rows.now true (a.part.now.end - 1) 1
