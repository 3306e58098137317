-- `name_index::enter_sorted` meets its contract: a name that stands among the entries is found, and another's head is put there. Assumes nothing.
use mathlib.Core.Path.{sym}
use Rattle.std.proofs.lemmas.Option.{none-some}
use Rattle.name_index.specs.Index.{spelled_name_at}
use Rattle.name_index.proofs.Laws.Sorted.{search-hit, search_none, insert-added}
use Rattle.name_index.proofs.enter_sorted.Goals as goal

pub returns-in-Ok-clause-entered : goal.returns-in-Ok-clause-entered
returns-in-Ok-clause-entered c =
    let h = c.args.heads in
    let is = rw c.spelled_at.ensures at c.in-Ok.ensures in
    record {
      place = rw c.place_in.ensures (search-hit c.requires.index (spelled_name_at h.rows.now h.names.now h.normalised c.args.place) _ is);
      added = λ e. absurd (none-some _ (sym e));
    }

pub returns-in-Err-clause-same_length : goal.returns-in-Err-clause-same_length
returns-in-Err-clause-same_length c = c.put_between.ensures.same_length

pub returns-in-Err-clause-entered : goal.returns-in-Err-clause-entered
returns-in-Err-clause-entered c =
    let h = c.args.heads in
    let is = rw c.spelled_at.ensures at c.in-Err.ensures in
    record {
      place = search_none c.requires.index (spelled_name_at h.rows.now h.names.now h.normalised c.args.place) _ is;
      added = λ e. insert-added c.requires.index c.requires.entering is c.put_between.ensures;
    }
