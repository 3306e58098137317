-- `name_index::find_sorted` meets its contract: the entry of the name is the only one. Assumes nothing.
use Rattle.names.specs.Same.{spelled_text}
use Rattle.name_index.proofs.Laws.Sorted.{search-hit, search_none}
use Rattle.name_index.proofs.find_sorted.Goals as goal

pub returns-in_default : goal.returns-in_default
returns-in_default c = search_none (rw c.requires.sorted at c.requires.index) (spelled_text c.args.asked) _ c.in_default.ensures

pub returns : goal.returns
returns c = rw c.place_in.ensures (search-hit (rw c.requires.sorted at c.requires.index) (spelled_text c.args.asked) _ c.in-Ok.ensures)
