-- `xsd_good::forms::row::is_head` meets its contract: the set of tags is that of the definition. Assumes nothing.
use mathlib.Core.Path.{◌∙◌}
use Rattle.xsd_good.proofs.Laws.Rules.{head-told}
use Rattle.xsd_good.proofs.forms.row.is_head.Goals as goal

pub returns : goal.returns
returns c = c.in_heads.ensures ∙ head-told c.args.tag
