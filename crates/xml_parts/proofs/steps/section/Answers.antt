-- `xml_parts::steps::section` meets its contract: what is passed over in a section's text are characters, and none of them begins the word that ends it. Assumes nothing.
use Rattle.text.specs.Text.{bytes}
use Rattle.xml_parts.proofs.Laws.Classes.{section-run}
use Rattle.xml_parts.proofs.steps.section.Goals as goal

pub until_over-requires : goal.until_over-requires
unfolding bytes
until_over-requires c = section-run _
