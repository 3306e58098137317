-- `name_index::sort` meets its contract. The loop's invariant: the first e entries are in order, and those behind are as they were. Assumes nothing.
use native.Mathlib.Omega.{arith}
use Rattle.name_index.proofs.Laws.Sorted.{sorting-start, sorting-new, sorting-next}
use Rattle.name_index.proofs.sort.Goals as goal
use Rattle.name_index.proofs.sort.Goals.{in-Err, in_default}

pub loop-e-init : goal.loop-e-init
loop-e-init c = sorting-start c.requires.index c.requires.few

pub loop-e-preserved : goal.loop-e-preserved
loop-e-preserved c =
    let r = c.requires in
    let s = c.loop-e.invariant in
    let at = c.place_in-place.ensures in
    elim c.match-search_sorted.branch [
      | in-Err w ↦ rw w.numbers-is (sorting-next r.index r.few s (omega arith) at (rw c.spelled_at.ensures at w.in-Err.ensures) w.put_between.ensures)
      | in_default w ↦ absurd (sorting-new r.index r.few s (omega arith) at _ (rw c.spelled_at.ensures at w.in_default.ensures))
    ]
