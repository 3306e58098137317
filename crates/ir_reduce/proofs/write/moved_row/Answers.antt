-- `ir_reduce::write::moved_row` meets its contract: number by number. Assumes nothing.

use Rattle.ir_reduce.proofs.write.moved_row.Goals as goal

pub returns : goal.returns
returns c = rw (c.offset.ensures, c.offset-2.ensures, c.offset-3.ensures, c.wide.ensures, c.wide-2.ensures)
