-- `ir_write::put_one` meets its contract: the rows of a type of that kind, and no row for any other. Assumes nothing.
use mathlib.Core.Path.{sym, ap, ◌∙◌}
use Rattle.ir_checks.specs.Kinds.{is_kind}
use Rattle.ir_append.proofs.Laws.Grows.{grows_none}
use Rattle.ir_write.proofs.Laws.Rest.{one-hit, one_none}
use Rattle.ir_write.proofs.put_one.Goals as goal

pub returns-then-not-is_kind : goal.returns-then-not-is_kind
returns-then-not-is_kind c =
    let a = c.args in
    rw (one_none a.part.now a.kind a.place (sym (c.is_kind.ensures ∙ ap (is_kind a.kind) c.tag.ensures) ∙ c.if-not-is_kind.true)) grows_none

pub returns : goal.returns
returns c =
    let a = c.args in
    rw (one-hit a.part.now a.kind a.place (sym (c.is_kind.ensures ∙ ap (is_kind a.kind) c.tag.ensures) ∙ c.if-not-is_kind.false)) c.put_type.ensures
