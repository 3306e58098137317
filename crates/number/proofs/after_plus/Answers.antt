-- `number::after_plus` meets its contract: the first byte decides, and an empty text has 0 there, which is no sign. Assumes nothing.
use mathlib.Core.Path.{sym, ◌∙◌}
use native.Mathlib.Omega.{arith}
use native.Mathlib.Nat.{le_of_eq}
use Prim.Native.Nat.{◌≤◌}
use lib.ListN.{length, drop, length-drop, get_or-eq_default}
use lib.Seq.{take_all}
use Rattle.number.proofs.Laws.Numbers.{after_plus-plus, after_plus-other}
use Rattle.number.proofs.after_plus.Goals as goal

pub returns-in-43 : goal.returns-in-43
returns-in-43 c =
    let s = c.args.s.now in
    take_all _ (drop 1 s) (le_of_eq (length-drop 1 s)) ∙ sym (after_plus-plus s (omega arith))

pub returns-in_default : goal.returns-in_default
returns-in_default c =
    let s = c.args.s.now in
    let h : length s ≤ 0 = omega arith in
    let e = get_or-eq_default s 0 h in
    sym (after_plus-other s (λ h. omega arith))

pub returns-in_default-2 : goal.returns-in_default-2
returns-in_default-2 c = sym (after_plus-other c.args.s.now (λ h. omega arith))
