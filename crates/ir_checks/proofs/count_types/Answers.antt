-- `ir_checks::count_types` meets its contract. Assumes nothing.
use mathlib.Core.Path.{◌∙◌}
use Rattle.std.proofs.Common.{rules, tests}
use Rattle.ir_rows.specs.Types.{is_type}
use Rattle.ir_checks.proofs.Laws.Counts.{types-counted}
use Rattle.ir_checks.proofs.count_types.Goals as goal

pub returns : goal.returns
returns c names = c.count_tags.ensures is_type (λ tag b e. search (rules, tests)) ∙ types-counted c.args.part.now.rows.now names c.args.part.now.end c.requires
