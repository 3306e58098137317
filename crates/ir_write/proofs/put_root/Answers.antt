-- `ir_write::put_root` meets its contract: an element's row, and no row for any other. Assumes nothing.
use mathlib.Core.Path.{sym, ◌∙◌}
use borrow.Author.Tests.{ne_eqb}
use Rattle.ir_append.proofs.Laws.Grows.{grows_none}
use Rattle.ir_write.proofs.Laws.Rest.{root-hit, root_none}
use Rattle.ir_write.proofs.put_root.Goals as goal

pub returns-then-tag-ne-ELEMENT : goal.returns-then-tag-ne-ELEMENT
returns-then-tag-ne-ELEMENT c =
    let a = c.args in
    rw (root_none a.part.now a.place (ne_eqb _ _ (λ e. c.if-tag-ne-ELEMENT.true (c.tag.ensures ∙ e)))) grows_none

pub returns : goal.returns
returns c =
    let a = c.args in
    rw (root-hit a.part.now a.place (sym c.tag.ensures ∙ c.if-tag-ne-ELEMENT.false)) c.put_lowered.ensures
