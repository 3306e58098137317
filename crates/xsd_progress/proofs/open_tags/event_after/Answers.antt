-- `xsd_progress::open_tags::event_after` meets its contract: the record after the event with root seen after it is the mode after it. Assumes nothing.
use Rattle.xsd_progress.proofs.Laws.Change.{seen-as, event-after}
use Rattle.xsd_progress.proofs.open_tags.event_after.Goals as goal

pub returns : goal.returns
returns c = event-after c.change.ensures (seen-as c.kind_of.ensures c.seen_after-seen.ensures) c.mode_of.ensures
