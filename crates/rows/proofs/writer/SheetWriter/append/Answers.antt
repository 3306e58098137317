-- `rows::writer::SheetWriter::append` meets its contract: the bytes of one text, or two. Assumes nothing.
use native.Mathlib.Omega.{arith}
use Rattle.rows.proofs.Laws.Texts.{used-bytes}
use Rattle.rows.proofs.writer.SheetWriter.append.Goals as goal

pub append_pairs-requires-clause-room : goal.append_pairs-requires-clause-room
append_pairs-requires-clause-room c =
    let room = rw c.in-Some.is at c.requires in
    record { rows = room.rows; names = rw (← used-bytes 2 c.args.first.now c.in-Some.text.now (omega arith)) room.names }

pub append_pairs-requires-in-None-clause-room : goal.append_pairs-requires-in-None-clause-room
append_pairs-requires-in-None-clause-room c =
    let room = rw c.in-None.is at c.requires in
    record { rows = room.rows; names = rw (← used-bytes 1 c.args.first.now c.args.first.now (omega arith)) room.names }
