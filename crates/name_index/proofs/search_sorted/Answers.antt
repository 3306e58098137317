-- `name_index::search_sorted` meets its contract. The loop's invariant: the names before low are before the one asked for, and those from high on behind it. The
-- measure is how many are between. Assumes nothing.
use mathlib.Core.Path.{sym, ◌∙◌}
use native.Mathlib.Omega.{arith}
use Rattle.names.specs.Same.{spelled_text}
use Rattle.name_index.proofs.Laws.Sorted.{halves-less, halves-greater}
use Rattle.name_index.proofs.search_sorted.Goals as goal

pub loop-low-preserved-in-Less : goal.loop-low-preserved-in-Less
loop-low-preserved-in-Less c =
    let less = rw (c.spelled_at.ensures, c.place_in-place.ensures) at (sym c.compare_spelled.ensures ∙ c.in-Less.is) in
    halves-less (rw c.requires.sorted at c.requires.index).arranged (spelled_text c.args.asked) c.loop-low.invariant (omega arith) (omega arith) less

pub loop-low-preserved : goal.loop-low-preserved
loop-low-preserved c =
    let greater = rw (c.spelled_at.ensures, c.place_in-place.ensures) at (sym c.compare_spelled.ensures ∙ c.in-Greater.is) in
    halves-greater (rw c.requires.sorted at c.requires.index).arranged (spelled_text c.args.asked) c.loop-low.invariant (omega arith) (omega arith) greater
