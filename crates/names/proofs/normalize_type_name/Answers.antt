-- `names::normalize_type_name` meets its contract: a name with an underscore by the scan of its segments, the first character up; any other is as it is.
-- Assumes nothing.
use mathlib.Core.Path.{sym, ◌∙◌}
use Rattle.names.proofs.Laws.Writing.{put_as}
use Rattle.names.proofs.Laws.Names.{normalize-plain, normalize-parted}
use Rattle.names.proofs.normalize_type_name.Goals as goal

pub returns-then-has_byte : goal.returns-then-has_byte
returns-then-has_byte c =
    let name = c.args.name.now in
    put_as c.put_segments.ensures (normalize-parted name (sym c.has_byte.ensures ∙ c.if-has_byte.true))

pub returns-else-has_byte : goal.returns-else-has_byte
returns-else-has_byte c =
    let name = c.args.name.now in
    put_as c.put_same.ensures (sym (normalize-plain name (sym c.has_byte.ensures ∙ c.if-has_byte.false)))
