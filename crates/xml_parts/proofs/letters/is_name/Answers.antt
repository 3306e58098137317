-- `xml_parts::letters::is_name` meets its contract: [4a] has one character more from U+0080 on. Assumes nothing.
use mathlib.Core.Path.{sym}
use Rattle.xml_parts.proofs.Laws.Letters.{high-name}
use Rattle.xml_parts.proofs.letters.is_name.Goals as goal

pub returns : goal.returns
returns c = rw c.is_name_start.ensures (sym (high-name c.args.point))
