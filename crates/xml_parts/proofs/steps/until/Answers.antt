-- `xml_parts::steps::until` meets its contract: behind the last byte there is no word. Assumes nothing.
use native.Mathlib.Nat.{le_refl}
use mathlib.Core.Path.{sym, ◌∙◌}
use lib.ListN.{length}
use Rattle.xml.proofs.Laws.Steps.{until_end}
use Rattle.xml_parts.proofs.steps.until.Goals as goal

pub returns-then-text-at : goal.returns-then-text-at
returns-then-text-at c = sym (until_end c.args.word.now c.args.text.now c.args.at c.args.at c.if-text-at.true)

pub returns-in_err-look : goal.returns-in_err-look
returns-in_err-look c =
    let text = c.args.text.now in
    rw c.from_residual.ensures (sym (until_end c.args.word.now text (length text) (length text) (le_refl (length text))) ∙ c.in_err-look.ensures)
