-- `xsd_good::count::finished_behind` meets its contract: row 0 says whether a type is open. Assumes nothing.
use mathlib.Core.Path.{ap}
use Rattle.xsd_types.specs.Row0.{Row0}
use Rattle.rows.proofs.Laws.Words.{words-each}
use Rattle.xsd_good.proofs.Laws.Heads.{end-open, end-closed}
use Rattle.xsd_good.proofs.count.finished_behind.Goals as goal

pub returns-then-z-ge-SIMPLE_TYPE : goal.returns-then-z-ge-SIMPLE_TYPE
returns-then-z-ge-SIMPLE_TYPE c =
    let rows = c.args.rows.now in
    record {
      place = end-open rows (ap (λ (z : Row0). z.context) c.row0_at-z.ensures) c.if-z-ge-SIMPLE_TYPE.true c.requires.1;
      words = words-each rows (λ i. (c.type_inv.rows i).fits);
    }

pub returns-else-z-ge-SIMPLE_TYPE : goal.returns-else-z-ge-SIMPLE_TYPE
returns-else-z-ge-SIMPLE_TYPE c =
    let rows = c.args.rows.now in
    record {
      place = end-closed rows (ap (λ (z : Row0). z.context) c.row0_at-z.ensures) c.if-z-ge-SIMPLE_TYPE.false (ap (λ (z : Row0). z.rows_used) c.row0_at-z.ensures);
      words = words-each rows (λ i. (c.type_inv.rows i).fits);
    }
