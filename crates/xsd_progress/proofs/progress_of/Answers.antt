-- `xsd_progress::progress_of` meets its contract: the walk from the end finds the head. Assumes nothing.
use mathlib.Core.Path.{ap, ◌∙◌}
use Rattle.xsd_types.specs.Row0.{Row0}
use Rattle.xsd_good.specs.Row0.{as_row0}
use Rattle.rows.proofs.Laws.Words.{words-each}
use Rattle.xsd_progress.proofs.Laws.Read.{progress-read}
use Rattle.xsd_progress.proofs.progress_of.Goals as goal

pub open_head-head-requires : goal.open_head-head-requires
open_head-head-requires c = rw (ap (λ (z : Row0). z.rows_used) c.row0_at-z.ensures) c.requires.1

pub returns : goal.returns
returns c =
    let rows = c.args.rows.now in
    record {
      numbers = c.progress_at.ensures ∙ progress-read rows (as_row0 c.row0_at-z.result) _ c.row0_at-z.ensures c.open_head-head.ensures;
      words = words-each rows (λ i. (c.type_inv.rows i).fits);
    }
