-- `xsd_read::carry::stands_after` meets its contract: its mode and open tags are those of the event that arrived. Assumes nothing.
use mathlib.Core.Path.{refl}
use Rattle.xsd_read.proofs.carry.stands_after.Goals as goal

pub returns : goal.returns
returns c =
    record { after = c.event_after-after.result; arrived = c.event_after-after.ensures; stands = refl }
