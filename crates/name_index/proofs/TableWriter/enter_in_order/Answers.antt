-- `name_index::TableWriter::enter_in_order` meets its contract: it is what `enter_sorted` does, and counted. Assumes nothing.
use mathlib.Core.Path.{refl}
use Rattle.name_index.proofs.TableWriter.enter_in_order.Goals as goal

pub enter_sorted-requires-clause-index : goal.enter_sorted-requires-clause-index
enter_sorted-requires-clause-index c = rw c.requires.sorted at c.requires.index

pub returns-in-Some : goal.returns-in-Some
returns-in-Some c =
    let e = c.in-Some.ensures in
    record { same_numbers = refl; same_buckets = refl; same_length = e.same_length; count = refl; entered = rw c.requires.sorted e.entered }

pub returns : goal.returns
returns c =
    let e = c.in_default.ensures in
    record { same_numbers = refl; same_buckets = refl; same_length = e.same_length; count = refl; entered = rw c.requires.sorted e.entered }
