-- `ir_append::put_spelled` meets its contract: no text leaves the part as it is. Assumes nothing.
use mathlib.Core.List.{[]}
use Rattle.names.proofs.Laws.Writing.{writing_start, writing-end}
use Rattle.ir_append.proofs.put_spelled.Goals as goal

pub returns-in-None : goal.returns-in-None
returns-in-None c = rw c.in-None.is (writing-end (writing_start [] c.args.part.now))
