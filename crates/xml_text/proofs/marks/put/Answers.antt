-- `xml_text::marks::put` meets its contract: past the end nothing is stored. Assumes nothing.
use mathlib.Core.Path.{sym}
use lib.Seq.{set_out}
use Rattle.xml_text.proofs.marks.put.Goals as goal

pub returns-else-at-marks : goal.returns-else-at-marks
returns-else-at-marks c = sym (set_out _ _ _ c.if-at-marks.false)
