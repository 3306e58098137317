-- `ir_index::kind_at` meets its contract: the tag decides. Assumes nothing.
use mathlib.Core.Path.{sym, ap, ◌∙◌}
use Rattle.ir_checks.specs.Kinds.{is_kind}
use Rattle.ir_index.specs.Heads.{kind_place}
use Rattle.ir_index.proofs.kind_at.Goals as goal

pub returns-then-is_kind : goal.returns-then-is_kind
unfolding kind_place
returns-then-is_kind c =
    rw (sym (c.is_kind.ensures ∙ ap (is_kind c.args.kind) c.tag.ensures) ∙ c.if-is_kind.true)

pub returns-else-is_kind : goal.returns-else-is_kind
unfolding kind_place
returns-else-is_kind c =
    rw (sym (c.is_kind.ensures ∙ ap (is_kind c.args.kind) c.tag.ensures) ∙ c.if-is_kind.false)
