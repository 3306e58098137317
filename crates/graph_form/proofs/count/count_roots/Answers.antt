-- `graph_form::count::count_roots` meets its contract. Assumes nothing.
use mathlib.Core.Path.{◌∙◌}
use Rattle.std.proofs.Common.{rules, tests}
use Rattle.graph_form.specs.Tests.{is_root}
use Rattle.graph_form.proofs.Laws.Count.{counted}
use Rattle.graph_form.proofs.count.count_roots.Goals as goal

pub returns : goal.returns
returns c = c.count_tags.ensures is_root (λ tag b e. search (rules, tests)) ∙ counted is_root c.args.part.now.rows.now c.args.part.now.end c.requires
