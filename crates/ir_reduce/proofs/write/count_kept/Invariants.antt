-- `ir_reduce::write::count_kept` meets its contract. The invariant: the count so far and that of the kept rows from the place at hand on are that of all. Assumes nothing.
use Prim.Native.Nat.{ℕ, ◌+◌, ◌-◌, ◌<◌}
use mathlib.Core.Path.{◌≡◌}
use mathlib.Core.Bool.{true}
use mathlib.Core.List.{List}
use Rattle.text.specs.Text.{between}
use Rattle.ir_types.specs.Form.{count}
use Rattle.ir_reduce.specs.Places.{row_at, kept_rows}
use Rattle.ir_reduce.proofs.Laws.Kept.{tagged}
use Rattle.ir_reduce.proofs.write.count_kept.Given as goal

abbrev pub invariant-loop-place : goal.invariant-loop-place
invariant-loop-place l =
    (l.n < l.place) × ((names : List ℕ)
    → l.n + count (between l.low l.high) (tagged (kept_rows (row_at l.part.rows.now names) l.marks l.kept l.place (l.part.end - l.place)))
    ≡ count (between l.low l.high) (tagged (kept_rows (row_at l.part.rows.now names) l.marks true 1 (l.part.end - 1))))
