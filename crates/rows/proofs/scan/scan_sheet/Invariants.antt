-- `rows::scan::scan_sheet` meets its contract. The loop's invariant: the pass over what is left from here gives what the pass over all rows behind row 1
-- gives, and the end of the pairs so far is at most 2 ^ 32. Assumes nothing.
use Prim.Native.Nat.{◌-◌, ◌*◌, ◌^◌, ◌≤◌}
use mathlib.Core.Path.{◌≡◌}
use lib.ListN.{drop}
use Rattle.sheet.specs.Rows.{tens}
use Rattle.rows.specs.Scan.{scanned}
use Rattle.rows.proofs.scan.scan_sheet.Given as goal

abbrev pub invariant-loop-place : goal.invariant-loop-place
invariant-loop-place g l =
    (l.s.end ≤ 2 ^ 32)
    × (scanned g.R.RowTests.tests l.names_used l.s (tens (l.part.end - l.place) (drop (10 * l.place) l.part.rows.now))
    ≡ scanned g.R.RowTests.tests l.names_used l.initial.s (tens (l.part.end - 2) (drop 20 l.part.rows.now)))
