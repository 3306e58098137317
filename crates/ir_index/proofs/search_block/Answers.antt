-- `ir_index::search_block` meets its contract: a block whose heads are new, and what is behind it, or the row of the first head that came before in the block. Assumes nothing.
use Rattle.ir_index.proofs.Laws.Blocks.{search-repeated, search-on}
use Rattle.ir_index.proofs.search_block.Goals as goal

pub returns-in-Ok : goal.returns-in-Ok
returns-in-Ok c = search-on c.in-Ok.ensures c.search_behind.ensures

pub returns-in-Err : goal.returns-in-Err
returns-in-Err c = search-repeated c.requires.within.1 c.in-Err.ensures
