-- `xsd_write::decimal::spell` meets its contract. The invariant: the digits of what is left of the number, in front of those stored, are the number's, and
-- there is room for them. The measure is the place of the next digit. Assumes nothing.
use native.Mathlib.Omega.{arith}
use mathlib.Core.Path.{refl, ◌∙◌}
use mathlib.Core.List.{append-nil}
use lib.ListN.{length-set}
use Rattle.xsd_written.specs.Decimal.{decimal}
use Rattle.xsd_write.proofs.Laws.Spell.{spell-some, spell-tenth, spell-step, spell_last}
use Rattle.xsd_write.proofs.decimal.spell.Goals as goal

pub loop-rest-init : goal.loop-rest-init
unfolding decimal
loop-rest-init c = (omega arith, omega arith, append-nil _, refl)

pub overflow_sub-at : goal.overflow_sub-at
overflow_sub-at c =
    let at = c.loop-rest in
    spell-some at.at at.rest c.loop-rest-test.true at.invariant.1

pub loop-rest-smaller : goal.loop-rest-smaller
loop-rest-smaller c =
    let at = c.loop-rest in
    omega (arith, spell-some at.at at.rest c.loop-rest-test.true at.invariant.1)

pub loop-rest-preserved : goal.loop-rest-preserved
loop-rest-preserved c =
    let at = c.loop-rest in
    let some = spell-some at.at at.rest c.loop-rest-test.true at.invariant.1 in (
      omega arith,
      spell-tenth at.at at.rest some at.invariant.1,
      rw c.digit.ensures (spell-step at.at at.rest at.digits c.loop-rest-test.true some (omega arith) ∙ at.invariant.2),
      length-set at.digits at.at c.digit.result ∙ at.invariant.3,
    )

pub returns : goal.returns
returns c =
    let at = c.loop-rest in
    record {
      long = length-set at.digits at.at c.digit-2.result ∙ at.invariant.3;
      inside = omega arith;
      is = rw c.digit-2.ensures (spell_last at.at at.rest at.digits (omega arith) (omega arith) ∙ at.invariant.2);
    }
