-- `lubiksan::leaves::lubiksan_parse_u32` meets its contract: number and value are those of the leaf's answer. Assumes nothing.
use Rattle.lubiksan.proofs.Laws.Exported.{exported-as}
use Rattle.lubiksan.proofs.leaves.lubiksan_parse_u32.Goals as goal

pub returns : goal.returns
returns c = exported-as c.parse_u32.result _ c.args.value.now _ _ c.parse_u32.ensures c.stored.ensures
