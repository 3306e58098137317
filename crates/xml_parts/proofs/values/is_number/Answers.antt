-- `xml_parts::values::is_number` meets its contract. The loop's invariant: the value so far, with what is left from i on, answers for the whole. A value past the last
-- code point stays past it. Assumes nothing.
use native.Mathlib.Omega.{arith}
use Prim.Native.Nat.{suc, ◌≤◌, ◌<◌, ◌*◌, ◌+◌}
use mathlib.Core.Path.{sym, ◌∙◌}
use native.Mathlib.Numerals.{add-one}
use lib.ListN.{get_or, drop}
use Rattle.xml.specs.Grammar.{digit_of}
use Rattle.xml.proofs.Laws.Values.{number-end, number-stop, number-wrong, number-on, number_past}
use Rattle.xml_parts.proofs.values.is_number.Goals as goal

pub returns-then-b-eq59 : goal.returns-then-b-eq59
returns-then-b-eq59 c =
    let a = c.args in
    c.is_char.ensures ∙ sym (number-stop a.base c.loop-i.v a.text.now c.loop-i.i (omega arith) c.if-b-eq59.true) ∙ c.loop-i.invariant.1

pub returns-then-base-digit : goal.returns-then-base-digit
returns-then-base-digit c =
    let a = c.args in
    let d : a.base ≤ digit_of (get_or a.text.now c.loop-i.i 0) = omega (arith, c.if-base-digit.true, c.in-Some.ensures) in
    sym (number-wrong a.base c.loop-i.v a.text.now c.loop-i.i (omega arith) c.if-b-eq59.false d) ∙ c.loop-i.invariant.1

pub returns-in_default : goal.returns-in_default
returns-in_default c =
    let a = c.args in
    let d : a.base ≤ digit_of (get_or a.text.now c.loop-i.i 0) = omega (arith, c.in_default.ensures, c.requires.1) in
    sym (number-wrong a.base c.loop-i.v a.text.now c.loop-i.i (omega arith) c.if-b-eq59.false d) ∙ c.loop-i.invariant.1

pub returns-then-v-gt1114111 : goal.returns-then-v-gt1114111
returns-then-v-gt1114111 c =
    let a = c.args in
    let d = digit_of (get_or a.text.now c.loop-i.i 0) in
    let less : d < a.base = omega (arith, c.if-base-digit.false, c.in-Some.ensures) in
    let past = number_past a.base (c.loop-i.v * a.base + d) (drop (suc c.loop-i.i) a.text.now) c.requires.0 (omega (arith, c.if-v-gt1114111.true, c.in-Some.ensures)) in
    sym past ∙ sym (number-on a.base c.loop-i.v a.text.now c.loop-i.i (omega arith) c.if-b-eq59.false less) ∙ c.loop-i.invariant.1

pub loop-i-preserved : goal.loop-i-preserved
loop-i-preserved c =
    let a = c.args in
    let d = digit_of (get_or a.text.now c.loop-i.i 0) in
    let less : d < a.base = omega (arith, c.if-base-digit.false, c.in-Some.ensures) in (
      omega (arith, c.if-v-gt1114111.false),
      rw (add-one c.loop-i.i, c.in-Some.ensures) (sym (number-on a.base c.loop-i.v a.text.now c.loop-i.i (omega arith) c.if-b-eq59.false less) ∙ c.loop-i.invariant.1),
    )

pub returns : goal.returns
returns c =
    let a = c.args in
    sym (number-end a.base c.loop-i.v a.text.now c.loop-i.i c.loop-i-test.false) ∙ c.loop-i.invariant.1
