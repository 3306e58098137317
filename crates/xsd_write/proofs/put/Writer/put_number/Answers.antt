-- `xsd_write::put::Writer::put_number` meets its contract: the digits, between quotes. Assumes nothing.
use native.Mathlib.Omega.{arith}
use Prim.Native.Nat.{◌-◌}
use mathlib.Core.Path.{◌≡◌, ◌∙◌}
use lib.ListN.{take, drop, length-drop}
use lib.Seq.{take_all}
use Rattle.xsd_written.specs.Decimal.{decimal}
use Rattle.xsd_write.proofs.put.Writer.put_number.Goals as goal

pub slice_bounds-put_value-start : goal.slice_bounds-put_value-start
slice_bounds-put_value-start c = omega (arith, c.spell-spelled.ensures.inside)

pub slice_bounds-put_value-end : goal.slice_bounds-put_value-end
slice_bounds-put_value-end c = omega (arith, c.spell-spelled.ensures.long)

pub returns : goal.returns
returns c =
    let w = c.spell-spelled.ensures in
    let from = c.spell-spelled.result.from in
    let digits = c.spell-spelled.result.digits in
    let all : take (20 - from) (drop from digits) ≡ decimal c.args.n = take_all (20 - from) (drop from digits) (omega (arith, length-drop from digits, w.long)) ∙ w.is in
    rw (← all) c.put_value.ensures
