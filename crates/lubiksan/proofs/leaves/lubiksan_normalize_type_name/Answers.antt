-- `lubiksan::leaves::lubiksan_normalize_type_name` meets its contract: the count is that of the writer's answer. Assumes nothing.
use mathlib.Core.Path.{ap, ◌∙◌}
use Rattle.lubiksan.specs.Exported.{stored_count}
use Rattle.lubiksan.proofs.leaves.lubiksan_normalize_type_name.Goals as goal

pub returns : goal.returns
returns c =
    let put = c.normalize_type_name.ensures in
    (c.count_of.ensures ∙ ap stored_count put.counted, put.holds)
