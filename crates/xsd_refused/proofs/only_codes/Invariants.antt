-- `xsd_refused::only_codes` meets its contract. The loop's invariant: the answer for the rows from p on is that for all. Assumes nothing.
use Prim.Native.Nat.{ℕ}
use mathlib.Core.Path.{◌≡◌}
use mathlib.Core.List.{List}
use Rattle.xsd_types.specs.Places.{rows_from}
use Rattle.xsd_types.specs.Refused.{only_codes}
use Rattle.xsd_refused.proofs.only_codes.Given as goal

abbrev pub invariant-loop-p : goal.invariant-loop-p
invariant-loop-p l = (names : List ℕ) → only_codes (rows_from l.part.rows.now names l.p l.part.end) ≡ only_codes (rows_from l.part.rows.now names l.from l.part.end)
