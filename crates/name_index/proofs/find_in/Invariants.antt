-- `name_index::find_in` meets its contract. The loop's invariant: the place of the name among all entries is that among the first e, and the last of those is
-- in its bucket, of which so many were passed. The measure is e, which falls. Assumes nothing.
use Rattle.names.specs.Same.{spelled_text}
use Rattle.name_index.proofs.Laws.Buckets.{Onward}
use Rattle.name_index.proofs.find_in.Given as goal

abbrev pub invariant-loop-e : goal.invariant-loop-e
invariant-loop-e l = Onward l.heads.rows.now l.heads.names.now l.heads.normalised l.table.numbers.now l.table.buckets (spelled_text l.asked) l.table.entries l.e l.passed

abbrev pub decreases-loop-e : goal.decreases-loop-e
decreases-loop-e l = l.e
