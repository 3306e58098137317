-- `xsd_act::needs::needed_row` meets its contract: the texts add their bytes. Assumes nothing.
use lib.ListN.{length-append}
use Rattle.text.specs.Text.{join}
use Rattle.sheet.specs.Rows.{row}
use Rattle.xsd_actions.specs.Answers.{new_row}
use Rattle.xsd_act.proofs.needs.needed_row.Goals as goal

pub returns-in-Some : goal.returns-in-Some
unfolding new_row row join
returns-in-Some c =
    rw (c.in-Some.is, length-append, ← c.bytes_of.ensures.bytes) c.with_row.ensures

pub returns-in-None : goal.returns-in-None
unfolding new_row row join
returns-in-None c = rw c.in-None.is c.with_row-in-None.ensures
