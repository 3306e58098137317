-- `xsd_write::put::Writer::put_rows`: all rows are put where those from the row at hand on are, behind the last head (`Going`).
use Rattle.xsd_written.specs.ByRows.{rows_text}
use Rattle.xsd_write.specs.Parts.{rows_of_part}
use Rattle.xsd_write.specs.Puts.{Going}
use Rattle.xsd_write.proofs.put.Writer.put_rows.Given as goal

abbrev pub invariant-loop-place : goal.invariant-loop-place
invariant-loop-place l = Going (rows_text 0 (rows_of_part l.part 2)) l.initial.self (rows_text l.pending (rows_of_part l.part l.place)) l.self
