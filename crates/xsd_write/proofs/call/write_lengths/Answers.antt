-- `xsd_write::call::write_lengths` meets its contract: the sheet's lengths, and the text's. Assumes nothing.
use mathlib.Core.Path.{ap}
use mathlib.Core.Bool.{Bool, ◌&&◌}
use lib.Dec.{leb}
use Rattle.xsd_write.proofs.call.write_lengths.Goals as goal

pub returns : goal.returns
returns c = ap (λ (b : Bool). b && leb c.args.text 65536) c.sheet_lengths.ensures
