-- `xml_text::marks::put_four` meets its contract: four stores, or two by two. Assumes nothing.
use native.Mathlib.Omega.{arith}
use Prim.Native.Nat.{ℕ, ◌+◌}
use mathlib.Core.Path.{◌≡◌, ap, ◌∙◌}
use mathlib.Core.List.{List}
use lib.ListN.{set}
use Rattle.xml_text.proofs.marks.put_four.Goals as goal

pub returns-then-at-marks : goal.returns-then-at-marks
returns-then-at-marks c =
    let a = c.args in
    let e : a.at + 3 ≡ a.at + 2 + 1 = omega arith in
    ap (λ (i : ℕ). set (set (set (set a.marks.now a.at a.first) (a.at + 1) a.second) (a.at + 2) a.third) i a.fourth) e

pub returns-else-at-marks : goal.returns-else-at-marks
returns-else-at-marks c =
    let a = c.args in
    c.put_two-else-at-marks.ensures ∙ ap (λ (l : List ℕ). set (set l (a.at + 2) a.third) (a.at + 2 + 1) a.fourth) c.put_two.ensures
