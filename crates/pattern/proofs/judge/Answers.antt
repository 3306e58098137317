-- `pattern::judge` meets its contract: the tests in the order's order. Assumes nothing.
use native.Mathlib.Omega.{arith}
use mathlib.Core.Path.{◌≡◌, sym, ◌∙◌}
use mathlib.Core.Bool.{Bool, true, false}
use Rattle.text.specs.Text.{Text}
use Rattle.pattern.specs.Grammar.{Derives, reg_exp}
use Rattle.pattern.specs.Answers.{ExpressionJudged}
use Rattle.pattern.specs.Call.{too_long, high_byte, left_aside, underivable, derived}
use Rattle.pattern.proofs.Laws.Plain.{plain_told}
use Rattle.pattern.proofs.judge.Goals as goal

judged-true : (s : Text) {r : Bool} → ExpressionJudged s r → r ≡ true → Derives reg_exp s
judged-true s j e = rw e at j

judged-false : (s : Text) {r : Bool} → ExpressionJudged s r → r ≡ false → Derives reg_exp s → ⊥
judged-false s j e = rw e at j

pub returns-then-not-is_ascii : goal.returns-then-not-is_ascii
returns-then-not-is_ascii c = high_byte (omega arith) (plain_told _ _ _ c.is_ascii.ensures.cases c.if-not-is_ascii.true)

pub returns-then-is_aside : goal.returns-then-is_aside
returns-then-is_aside c = left_aside (omega arith) (plain_told _ _ _ c.is_ascii.ensures.cases c.if-not-is_ascii.false) (sym c.is_aside.ensures ∙ c.if-is_aside.true)

pub returns-then-is_expression : goal.returns-then-is_expression
returns-then-is_expression c =
    derived (omega arith) (plain_told _ _ _ c.is_ascii.ensures.cases c.if-not-is_ascii.false)
    (sym c.is_aside.ensures ∙ c.if-is_aside.false)
    (judged-true _ c.is_expression.ensures c.if-is_expression.true)

pub returns-else-is_expression : goal.returns-else-is_expression
returns-else-is_expression c =
    underivable (omega arith) (plain_told _ _ _ c.is_ascii.ensures.cases c.if-not-is_ascii.false)
    (sym c.is_aside.ensures ∙ c.if-is_aside.false)
    (judged-false _ c.is_expression.ensures c.if-is_expression.false)

pub returns-then-s-gt-PATTERN : goal.returns-then-s-gt-PATTERN
returns-then-s-gt-PATTERN c = too_long c.if-s-gt-PATTERN.true
