-- `printing::input_of` meets its contract: each return is the arm of the definition that the tests lead to. Assumes nothing.
use Rattle.std.proofs.Common.{◌<◌, length, refl, sym, ◌∙◌}
use borrow.Author.Tests.{le-leb, lt-leb}
use Rattle.text.proofs.Laws.Tests.{and-true}
use Rattle.printing.proofs.Laws.Input.{input-long, input-tape, input-short}
use Rattle.printing.proofs.input_of.Goals as goal

pub returns-then-too_long : goal.returns-then-too_long
returns-then-too_long c = input-long c.args.input.now (sym c.too_long.ensures ∙ c.if-too_long.true)

pub returns-in_default : goal.returns-in_default
returns-in_default c =
    let s = c.args.input.now in
    let below : length s < 8 = c.in_default.ensures in
    input-short s _ _ (sym c.too_long.ensures ∙ c.if-too_long.false) refl refl (rw (lt-leb 8 (length s) below))

pub returns-then-text-marks : goal.returns-then-text-marks
returns-then-text-marks c =
    let s = c.args.input.now in
    let n = c.in-Some.ensures in
    input-tape s _ _ (sym c.too_long.ensures ∙ c.if-too_long.false) (c.wide-text.ensures ∙ n.1) (c.wide-marks.ensures ∙ n.2)
    (and-true (le-leb 8 (length s) n.0) (le-leb _ (length s) c.if-text-marks.true))

pub returns-else-text-marks : goal.returns-else-text-marks
returns-else-text-marks c =
    let s = c.args.input.now in
    let n = c.in-Some.ensures in
    input-short s _ _ (sym c.too_long.ensures ∙ c.if-too_long.false) (c.wide-text.ensures ∙ n.1) (c.wide-marks.ensures ∙ n.2)
    (rw (le-leb 8 (length s) n.0, lt-leb _ (length s) c.if-text-marks.false))
