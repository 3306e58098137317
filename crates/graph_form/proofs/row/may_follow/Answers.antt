-- `graph_form::row::may_follow` meets its contract: the table's set of heads is that of the definition, and a tag that is not known stands behind none.
-- Assumes nothing.
use mathlib.Core.Path.{ap, ◌∙◌}
use native.Mathlib.Omega.{arith}
use borrow.Author.Tests.{lt-leb}
use Rattle.rows.specs.Table.{in_heads}
use Rattle.graph_form.specs.declared.rules.Rule.{Rule}
use Rattle.graph_form.proofs.Laws.Rules.{heads-follow, unknown-follows}
use Rattle.graph_form.proofs.row.may_follow.Goals as goal

pub returns-then-tag-le-ATTRIBUTE : goal.returns-then-tag-le-ATTRIBUTE
returns-then-tag-le-ATTRIBUTE c = c.in_heads.ensures ∙ ap (λ (r : Rule). in_heads r.heads c.args.head) c.rule_of.ensures ∙ heads-follow c.args.tag c.args.head c.if-tag-le-ATTRIBUTE.true

pub returns-else-tag-le-ATTRIBUTE : goal.returns-else-tag-le-ATTRIBUTE
returns-else-tag-le-ATTRIBUTE c = rw (lt-leb c.args.tag 19 (omega arith)) (unknown-follows c.args.head c.args.tag (omega arith))
