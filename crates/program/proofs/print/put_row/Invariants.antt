-- The loop of `put_row`: what was written is the text of the numbers so far. Assumes nothing.
use Rattle.std.proofs.Common.{take}
use Rattle.std.specs.Io.KnownBytes.{Appends}
use Rattle.program.specs.Print.{numbers_text}
use Rattle.program.proofs.print.put_row.Given as goal

abbrev pub invariant-loop-at : goal.invariant-loop-at
invariant-loop-at g l = Appends (g.W.Write.contents l.initial.out) (g.W.Write.contents l.out) (numbers_text 0 (take l.at l.row))
