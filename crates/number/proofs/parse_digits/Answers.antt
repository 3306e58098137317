-- `number::parse_digits` meets its contract. A step that would leave the limit refuses, because a value only grows. Assumes nothing.
use mathlib.Core.Path.{sym, ap, ◌∙◌}
use native.Mathlib.Omega.{arith}
use Rattle.std.proofs.lemmas.Bool.Decides.{nat_tests}
use Rattle.number.specs.Answers.{of_number}
use Rattle.number.proofs.Laws.Numbers.{numeral-none, read-start, read-end, read-other, read-over, read-digit}
use Rattle.number.proofs.parse_digits.Goals as goal

pub returns-then-is_empty : goal.returns-then-is_empty
returns-then-is_empty c = sym (numeral-none _ c.args.digits.now (grind (arith, nat_tests)))

pub loop-b-init : goal.loop-b-init
loop-b-init c = read-start _ _ (grind (arith, nat_tests)) (omega arith)

pub returns-in_err-digit : goal.returns-in_err-digit
returns-in_err-digit c = ap of_number c.from_residual.ensures ∙ read-other c.loop-b.invariant (omega arith) c.in_err-digit.ensures

pub returns-in_err-tens : goal.returns-in_err-tens
returns-in_err-tens c =
    ap of_number c.from_residual-in_err-tens.ensures ∙ read-over c.loop-b.invariant (omega arith) c.in_ok-digit.ensures (omega (arith, c.in_err-tens.ensures))

pub returns-in_err-value : goal.returns-in_err-value
returns-in_err-value c =
    ap of_number c.from_residual-in_err-value.ensures
    ∙ read-over c.loop-b.invariant (omega arith) c.in_ok-digit.ensures (omega (arith, c.in_ok-tens.ensures, c.in_err-value.ensures))

pub loop-b-preserved : goal.loop-b-preserved
loop-b-preserved c = read-digit c.loop-b.invariant (omega arith) c.in_ok-digit.ensures (omega (arith, c.in_ok-tens.ensures, c.in_ok-value.ensures)) (omega arith)

pub returns : goal.returns
returns c = read-end c.loop-b.invariant c.loop-b-test.false
