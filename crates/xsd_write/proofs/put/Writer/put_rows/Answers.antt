-- `xsd_write::put::Writer::put_rows` meets its contract. The invariant: all rows are put where those from the row at hand on are, behind the last head (`Going`). The
-- measure is how many rows are left. Assumes nothing.
use native.Mathlib.Omega.{arith}
use Prim.Native.Nat.{◌+◌}
use Rattle.xsd_written.specs.ByRows.{rows_text}
use Rattle.xsd_write.specs.Texts.{as_row, row_text}
use Rattle.xsd_write.specs.Parts.{rows_of_part}
use Rattle.xsd_write.proofs.Laws.Puts.{going_start, going_step}
use Rattle.xsd_write.proofs.Laws.Rows.{rest-on, rest_end}
use Rattle.xsd_write.proofs.put.Writer.put_rows.Goals as goal

pub loop-place-init : goal.loop-place-init
loop-place-init c = going_start _ _

pub loop-place-preserved : goal.loop-place-preserved
loop-place-preserved c =
    let part = c.args.part.now in
    going_step (row_text c.loop-place.pending (as_row c.at-row.result)) (rows_text c.head_after-pending.result (rows_of_part part (c.loop-place.place + 1))) c.loop-place.invariant
    (rest-on part.rows.now part.names.now c.at-row.result c.loop-place.place part.end c.loop-place.pending
    c.head_after-pending.result c.at-row.ensures.row c.loop-place-test.true
    c.head_after-pending.ensures) c.put_row.ensures

pub returns : goal.returns
returns c =
    let part = c.args.part.now in
    c.loop-place.invariant.on _ (rw (rest_end part.rows.now part.names.now c.loop-place.place part.end c.loop-place.pending
    (omega arith)) c.put_close.ensures)
