-- `ir_index::search_behind` meets its contract: where none came with the block nothing changes, and else the first that came is the limit. Assumes nothing.
use Rattle.ir_index.proofs.Laws.Blocks.{behind_none, behind-came}
use Rattle.ir_index.proofs.search_behind.Goals as goal

pub returns-in_default : goal.returns-in_default
returns-in_default c = behind_none c.in_default.ensures

pub returns : goal.returns
returns c = behind-came c.in-Some.ensures
