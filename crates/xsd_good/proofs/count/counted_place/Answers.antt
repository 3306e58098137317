-- `xsd_good::count::counted_place` meets its contract: the count is compared with the one that is right. Assumes nothing.
use Rattle.std.specs.Prelude.{Option, MatchOption}
use Rattle.std.specs.Bool.{then_some}
use Prim.Native.Nat.{ℕ}
use mathlib.Core.Path.{◌≡◌, sym}
use mathlib.Core.Bool.{Bool, true, false}
use mathlib.Core.List.{List}
use native.Mathlib.Omega.{arith}
use lib.Dec.{eqb}
use Rattle.sheet.specs.Rows.{Sheet}
use Rattle.sheet.specs.Calls.{sheet}
use Rattle.xsd_types.specs.Count.{good}
use Rattle.xsd_good.specs.End.{FinishedAt}
use Rattle.xsd_good.proofs.Laws.Bare.{bare-used, good-by-count}
use Rattle.xsd_good.proofs.count.counted_place.Goals as goal

pub finished_place-end-requires : goal.finished_place-end-requires
finished_place-end-requires c =
    let u = bare-used c.args.rows.now c.args.names.now c.requires in
    (omega (arith, u.0), u.1)

pub count_in-requires : goal.count_in-requires
count_in-requires c = omega (arith, (bare-used c.args.rows.now c.args.names.now c.requires).0)

pub count_to-requires : goal.count_to-requires
count_to-requires c =
    let p = c.finished_place-end.ensures in
    (c.requires, record { place = p.place; words = p.words })

-- what the test of the count and the place make
counted : (x : Sheet) (rows : List ℕ) (b : Bool) (end : ℕ) {r : Option ℕ} → r ≡ then_some b end → good x ≡ b → FinishedAt rows end
    → MatchOption r (good x ≡ false) (λ e. (good x ≡ true) × FinishedAt rows e)
counted x rows true end e g f = rw e (g, f)
counted x rows false end e g f = rw e g

pub returns : goal.returns
returns c =
    let a = c.args in
    let p = c.finished_place-end.ensures in
    counted (sheet a.rows.now a.names.now) a.rows.now (eqb c.count_in.result c.count_to.result) c.finished_place-end.result c.then_some.ensures
    (sym (good-by-count a.rows.now a.names.now c.requires c.count_in.ensures c.count_to.ensures.count)) (record { place = p.place; words = p.words })
