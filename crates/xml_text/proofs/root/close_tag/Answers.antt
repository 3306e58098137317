-- `xml_text::root::close_tag` meets its contract: the steps one behind the other, each inside the text; the name is held against that of the last slot.
-- Assumes nothing.
use native.Mathlib.Omega.{arith}
use Prim.Native.Nat.{◌-◌}
use mathlib.Core.Path.{refl, sym, ◌∙◌}
use mathlib.Core.List.{[], ◌∷◌}
use Rattle.text.specs.Text.{bytes}
use Rattle.xml.specs.Tape.{TapeEvent}
use Rattle.xml.proofs.Laws.Root.{close-bad, close_of, closing-of, close-size}
use Rattle.xml_text.proofs.Laws.Root.{level-bad, matched_to, close-inside, close-same, put-close}
use Rattle.xml_text.proofs.root.close_tag.Goals as goal

pub returns-in_err-start : goal.returns-in_err-start
unfolding bytes
returns-in_err-start c = let a = c.args in rw (c.from_residual.ensures, close-bad a.here.at _ (sym c.in_err-start.ensures))

pub returns-in_err-end : goal.returns-in_err-end
unfolding bytes
returns-in_err-end c =
    let a = c.args in
    let l = sym c.in_ok-start.ensures in
    rw (c.from_residual-in_err-end.ensures, close_of a.here.at _ _ _ _ l refl)
    (level-bad a.text.now a.slots.now a.here.count (a.here.count - 1) _ (omega (arith, c.requires)) (sym c.in_err-end.ensures))

pub returns-in_err-behind : goal.returns-in_err-behind
unfolding bytes
returns-in_err-behind c =
    let a = c.args in
    let l = sym c.in_ok-start.ensures in
    let m = matched_to a.text.now _ _ _ (sym c.in_ok-end.ensures) in
    rw (c.from_residual-in_err-behind.ensures, close_of a.here.at _ _ _ _ l (closing-of _ _ m.1 c.spaces.ensures (sym c.in_err-behind.ensures)))

pub invariant_of-result : goal.invariant_of-result
unfolding bytes
invariant_of-result c =
    let a = c.args in
    let i = close-inside a.text.now a.here.at _ _ _ _ _ c.in_ok-start.ensures c.in_ok-end.ensures c.spaces.ensures c.in_ok-behind.ensures in
    record { opened = omega (arith, c.requires, a.here.opened, i); stored = omega (arith, a.here.stored, i) }

pub returns : goal.returns
unfolding bytes
returns c =
    let a = c.args in
    let text = a.text.now in
    let m = matched_to text _ _ _ (sym c.in_ok-end.ensures) in
    let i = close-inside text a.here.at _ _ _ _ _ c.in_ok-start.ensures c.in_ok-end.ensures c.spaces.ensures c.in_ok-behind.ensures in (
      TapeEvent.close ∷ [],
      rw (close_of a.here.at _ _ _ _ (sym c.in_ok-start.ensures) (closing-of _ _ m.1 c.spaces.ensures (sym c.in_ok-behind.ensures)))
          (close-same text a.slots.now a.here.count (a.here.count - 1) _ _ _ (omega (arith, c.requires)) m.0),
      omega (arith, close-size),
      c.put_two.ensures ∙ put-close a.marks.now a.here.used,
      omega (arith, i),
      i.1,
    )
