-- `xsd_good::scan::bare_row1` meets its contract: the numbers of row 1 as they are read, but for the count. Assumes nothing.
use native.Mathlib.Omega.{arith}
use Rattle.rows.specs.Ten.{as_ten}
use Rattle.xsd_good.proofs.Laws.Bare.{row1-bare}
use Rattle.xsd_good.proofs.scan.bare_row1.Goals as goal

pub returns : goal.returns
returns c = row1-bare c.args.rows.now (as_ten c.ten_at.result) (omega arith) c.ten_at.ensures
