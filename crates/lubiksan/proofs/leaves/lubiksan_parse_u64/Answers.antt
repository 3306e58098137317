-- `lubiksan::leaves::lubiksan_parse_u64` meets its contract: number and value are those of the leaf's answer. Assumes nothing.
use Rattle.lubiksan.proofs.Laws.Exported.{exported-as}
use Rattle.lubiksan.proofs.leaves.lubiksan_parse_u64.Goals as goal

pub returns : goal.returns
returns c = exported-as c.parse_u64.result _ c.args.value.now _ _ c.parse_u64.ensures c.stored.ensures
