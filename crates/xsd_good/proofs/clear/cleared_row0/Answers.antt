-- `xsd_good::clear::cleared_row0` meets its contract: the numbers are those of the first state, and a choice up to 1 is a flag. Assumes nothing.
use mathlib.Core.Path.{sym}
use borrow.Author.Tests.{le-leb}
use Rattle.text.specs.Unfold.{computes as texts}
use Rattle.sheet.specs.Unfold.{computes as sheets}
use Rattle.xsd_types.specs.Unfold.{computes as schemas}
use Rattle.xsd_types.proofs.Laws.Rows.{bit-again}
use Rattle.xsd_good.proofs.clear.cleared_row0.Goals as goal

pub returns : goal.returns
unfolding texts sheets schemas
returns c =
    let n = c.args.choice in
    λ i. record {
      first = 0;
      rows_used = 2;
      names_used = 0;
      context = 0;
      nesting = 0;
      root_seen = 0;
      events = 0;
      open_tags = 0;
      extension = 0;
      choice = sym (bit-again n (le-leb n 1 c.requires)) i;
    }
