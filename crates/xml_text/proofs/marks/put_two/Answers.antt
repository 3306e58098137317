-- `xml_text::marks::put_two` meets its contract: where not both numbers fit, the second is past the end. Assumes nothing.
use native.Mathlib.Omega.{arith}
use Prim.Native.Nat.{◌+◌}
use mathlib.Core.Path.{sym, ◌∙◌}
use lib.ListN.{set, length-set}
use lib.Seq.{set_out}
use Rattle.xml_text.proofs.marks.put_two.Goals as goal

pub returns-else-at-marks : goal.returns-else-at-marks
returns-else-at-marks c =
    let a = c.args in
    c.put.ensures ∙ sym (set_out (set a.marks.now a.at a.first) (a.at + 1) a.second (omega (arith, c.if-at-marks.false, length-set a.marks.now a.at a.first)))
