-- `graph_form::count::count_types` meets its contract. Assumes nothing.
use mathlib.Core.Path.{◌∙◌}
use Rattle.std.proofs.Common.{rules, tests}
use Rattle.ir_types.specs.Form.{is_type_tag}
use Rattle.graph_form.proofs.Laws.Count.{counted}
use Rattle.graph_form.proofs.count.count_types.Goals as goal

pub returns : goal.returns
returns c = c.count_tags.ensures is_type_tag (λ tag b e. search (rules, tests)) ∙ counted is_type_tag c.args.part.now.rows.now c.args.part.now.end c.requires
