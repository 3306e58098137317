-- `xsd_good::scan::open_head` meets its contract. The loop's invariant: the rows before those that are passed answer for those before row n.
-- Assumes nothing.
use Prim.Native.Nat.{◌-◌}
use mathlib.Core.Path.{◌≡◌}
use Rattle.xsd_good.specs.Heads.{head_row}
use Rattle.xsd_good.proofs.scan.open_head.Given as goal

abbrev pub invariant-loop-passed : goal.invariant-loop-passed
invariant-loop-passed l = head_row l.rows (l.n - l.passed) ≡ head_row l.rows l.n
