-- `xsd_good::forms::rules::rule_of` meets its contract: the table is that of the rules. Assumes nothing.
use Rattle.text.specs.Text.{between}
use Rattle.sheet.specs.Rows.{bit}
use Rattle.rows.specs.Table.{set_below}
use Rattle.xsd_types.specs.Good.{used_pairs, is_head, is_child, may_follow}
use Rattle.xsd_good.specs.Rules.{most_a, free_b, rule_of, rule_numbers, ruled_tags}
use Rattle.xsd_good.proofs.Laws.Rules.{rule-at}
use Rattle.xsd_good.proofs.forms.rules.rule_of.Goals as goal

pub returns : goal.returns
unfolding ruled_tags rule_numbers rule_of most_a free_b set_below used_pairs is_head is_child may_follow between bit
returns c = rule-at c.args.tag _ c.requires
