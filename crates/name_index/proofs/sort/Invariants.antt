-- `name_index::sort` meets its contract. The loop's invariant: the first e entries are in order, and those behind are as they were. Assumes nothing.
use Rattle.name_index.proofs.Laws.Sorted.{Sorting}
use Rattle.name_index.proofs.sort.Given as goal

abbrev pub invariant-loop-e : goal.invariant-loop-e
invariant-loop-e l = Sorting l.heads.rows.now l.heads.names.now l.heads.normalised l.initial.numbers l.numbers l.buckets l.entries l.e
