-- `buffer::replace::replace_names` meets its contract: what is behind the text moves, the freed room is zero, and the new text is stored. Assumes nothing.
use native.Mathlib.Omega.{arith}
use Rattle.std.proofs.Common.{ℕ, ◌+◌, ◌-◌, List, ◌++◌, length, take, drop, ap, ◌∙◌}
use Rattle.std.proofs.lemmas.List.{take-take}
use native.Mathlib.Nat.{le_refl}
use Rattle.buffer.proofs.Laws.Middle.{text-replaced}
use Rattle.buffer.proofs.Laws.Zeros.{part-zeroed}
use Rattle.buffer.proofs.replace.replace_names.Goals as goal

pub returns : goal.returns
returns c n p q r e long place size whole =
    let a = c.args in
    text-replaced n p q r a.new.now a.at a.len a.used (c.max.result - (a.at + length a.new.now + (a.used - (a.at + a.len)))) e long place size whole
    (omega (arith, c.requires)) (omega (arith, c.requires)) (omega (arith, c.max.ensures))
    (c.shift_names.ensures ∙ ap (λ (x : List ℕ). take (a.at + length a.new.now) a.names.now ++ x ++ drop (a.at + length a.new.now + (a.used - (a.at + a.len))) a.names.now)
    (take-take _ _ (drop (a.at + a.len) a.names.now) (le_refl (a.used - (a.at + a.len)))))
    (part-zeroed _ _ _ _ (omega (arith, c.max.ensures)) (omega (arith, c.max.ensures, c.requires, c.shift_names.auto.names)) (c.fill.ensures.after (λ y h. h))) c.copy_text.ensures
