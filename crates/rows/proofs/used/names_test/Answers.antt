-- `rows::used::names_test` meets its contract: the part up to a place is the first bytes. Assumes nothing.
use mathlib.Core.Path.{sym}
use native.Mathlib.Omega.{arith}
use lib.Seq.{length-take-le}
use Rattle.rows.proofs.used.names_test.Goals as goal

pub slice_bounds-is_plain-end : goal.slice_bounds-is_plain-end
slice_bounds-is_plain-end g c =
    let a = c.args in
    sym (length-take-le _ a.part.now.names.now (omega arith))
