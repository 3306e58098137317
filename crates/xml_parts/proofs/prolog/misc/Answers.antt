-- `xml_parts::prolog::misc` meets its contract. The loop's invariant: the parts from i on end where the whole ends, with turns enough for the bytes left. The measure is
-- how much is left. Assumes nothing.
use native.Mathlib.Omega.{arith}
use Prim.Native.Nat.{suc}
use mathlib.Core.Path.{sym, ap, ◌∙◌}
use lib.ListN.{length, drop, length-drop}
use Rattle.xml.specs.Steps.{Step, ◌and_then◌}
use Rattle.xml.specs.Prolog.{misc_behind, misc}
use Rattle.xml.proofs.Laws.Moves.{misc-ahead, misc-bad, misc-stop, misc-on}
use Rattle.xml_parts.proofs.prolog.misc.Goals as goal

pub loop-i-init : goal.loop-i-init
unfolding misc
loop-i-init c =
    let i = c.spaces-i.result in
    (suc (length (drop i c.args.text.now)), omega (arith, length-drop i c.args.text.now), ap (λ (d : Step). d and_then misc_behind) c.spaces-i.ensures)

pub returns-in_err-behind : goal.returns-in_err-behind
returns-in_err-behind c =
    rw c.from_residual.ensures
    (sym (misc-bad c.loop-i.invariant.0 c.loop-i.i _ (sym c.is_misc.ensures ∙ c.loop-i-test.true) (sym c.in_err-behind.ensures)) ∙ c.loop-i.invariant.2)

pub loop-i-smaller : goal.loop-i-smaller
loop-i-smaller c =
    omega (
      arith,
      misc-ahead c.args.text.now c.loop-i.i _ _ (sym c.is_misc.ensures ∙ c.loop-i-test.true)
          (sym c.in_ok-behind.ensures) (sym c.spaces-i-in-loop-i.ensures),
    )

pub loop-i-preserved : goal.loop-i-preserved
loop-i-preserved c =
    misc-on c.args.text.now c.loop-i.invariant.0 c.loop-i.i _ _ _ c.loop-i.invariant.1 (sym c.is_misc.ensures ∙ c.loop-i-test.true)
    (sym c.in_ok-behind.ensures) (sym c.spaces-i-in-loop-i.ensures) c.loop-i.invariant.2

pub returns : goal.returns
returns c =
    sym (misc-stop c.loop-i.invariant.0 c.loop-i.i _ (omega (arith, c.loop-i.invariant.1)) (sym c.is_misc.ensures ∙ c.loop-i-test.false)) ∙ c.loop-i.invariant.2
