-- `graph_form::rules::rule_of` meets its contract: the table is that of the rules. Assumes nothing.
use mathlib.Core.Bool.{not}
use lib.Dec.{eqb}
use Rattle.text.specs.Text.{between}
use Rattle.sheet.specs.Rows.{bit}
use Rattle.rows.specs.Table.{set_below}
use Rattle.ir_types.specs.Form.{used_pairs, is_type_tag, is_child, may_follow}
use Rattle.graph_form.specs.Rules.{most_a, most_b, rule_of, rule_numbers, ruled_tags}
use Rattle.graph_form.proofs.Laws.Rules.{rule-at}
use Rattle.graph_form.proofs.rules.rule_of.Goals as goal

pub returns : goal.returns
unfolding ruled_tags rule_numbers rule_of most_a most_b set_below used_pairs is_type_tag is_child may_follow between bit
returns c = rw c.from.ensures (rule-at c.args.tag (not (eqb c.args.a 0)) _ _ c.requires)
