-- `xsd_replace::head::cut` meets its contract: zeros are stored from both places to the ends of the used parts. Assumes nothing.
use Prim.Native.Nat.{◌-◌, ◌*◌}
use mathlib.Core.Path.{◌≡◌}
use native.Mathlib.Omega.{arith}
use Rattle.buffer.proofs.Laws.Zeros.{part-zeroed}
use Rattle.xsd_replace.proofs.head.cut.Goals as goal

pub returns-clause-rows : goal.returns-clause-rows
returns-clause-rows c =
    let a = c.args in
    let w = a.sheet.now in
    let count : 10 * w.used.rows - 10 * a.place ≡ 10 * (w.used.rows - a.place) = omega arith in
    rw (← count) (part-zeroed (10 * a.place) (10 * w.used.rows) w.rows.now _ (omega (arith, c.requires)) (omega (arith, c.requires)) (c.fill.ensures.after (λ y h. h)))

pub returns-clause-names : goal.returns-clause-names
returns-clause-names c = part-zeroed _ _ _ _ (omega (arith, c.requires)) (omega (arith, c.requires)) (c.fill-2.ensures.after (λ y h. h))
