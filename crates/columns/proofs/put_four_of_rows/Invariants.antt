-- `columns::put_four_of_rows`: four columns are written as far as q squares reach, and `above` is the sums above the next one, 0 at first.
use Rattle.std.proofs.Common.{◌≡◌, ◌*◌, length}
use Rattle.columns.specs.Columns.{restored}
use Rattle.columns.specs.Filled.{by_row, fours, Strip, sums_above}
use Rattle.columns.proofs.put_four_of_rows.Given as goal

abbrev pub invariant-loop-q : goal.invariant-loop-q
invariant-loop-q l =
    (length l.out ≡ length l.initial.out) × (l.above ≡ sums_above l.columns l.c (4 * l.q)) × Strip by_row (restored l.columns) l.c (4 * l.q) (fours l.height) l.out
