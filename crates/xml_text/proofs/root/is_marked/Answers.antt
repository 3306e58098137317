-- `xml_text::root::is_marked` meets its contract: the two words. Assumes nothing.
use Rattle.text.specs.Text.{bytes}
use Rattle.xml_text.proofs.root.is_marked.Goals as goal

pub returns : goal.returns
unfolding bytes
returns c = rw (c.starts.ensures, c.starts-2.ensures)
