-- The loop of `put_rows`: the text that was written, and that of the rows that are left, are all of it. Assumes nothing.
use Rattle.std.proofs.Common.{◌≡◌, List, ℕ, ◌++◌}
use Rattle.std.specs.Io.KnownBytes.{Appends}
use Rattle.program.specs.Print.{printed_rows}
use Rattle.program.proofs.print.put_rows.Given as goal

abbrev pub invariant-loop-row : goal.invariant-loop-row
invariant-loop-row g l = (l.row-iterator.iter.size ≡ 10) × ((done : List ℕ) × Appends (g.W.Write.contents l.initial.out) (g.W.Write.contents l.out) done
    × (done ++ printed_rows l.row-iterator.n l.row-iterator.iter.rest.now ≡ printed_rows l.used l.rows))
