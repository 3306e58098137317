-- `xsd_read::read_lengths` meets its contract: the two tests of the lengths. Assumes nothing.

use Rattle.xsd_read.proofs.read_lengths.Goals as goal

pub returns : goal.returns
returns c = rw (c.sheet_lengths.ensures, c.tape_lengths.ensures)
