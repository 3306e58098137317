-- `ir_checks::count_roots` meets its contract. Assumes nothing.
use Prim.Native.Nat.{ℕ}
use mathlib.Core.Path.{◌∙◌}
use lib.Dec.{eqb}
use Rattle.std.proofs.Common.{rules, tests}
use Rattle.ir_checks.proofs.Laws.Counts.{roots-counted}
use Rattle.ir_checks.proofs.count_roots.Goals as goal

pub returns : goal.returns
returns c names = c.count_tags.ensures (λ (tag : ℕ). eqb tag 2) (λ tag b e. search (rules, tests)) ∙ roots-counted c.args.part.now.rows.now names c.args.part.now.end c.requires
