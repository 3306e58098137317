-- `xsd_read::read_good` meets its contract: the records are read from where the sheet stands, and row 0 is that of where the reading ends. Assumes nothing.
use Rattle.std.proofs.Common.{rules}
use Rattle.xsd_good.proofs.Laws.Held.{good-used}
use Rattle.xsd_read.proofs.Laws.Good.{standing-first, reached-small, good-read, head-read, put-room}
use Rattle.xsd_read.proofs.read_good.Goals as goal

pub progress_by-from-requires : goal.progress_by-from-requires
progress_by-from-requires c =
    let u = good-used _ c.args.names.now c.requires.0.is_good in
    (u.0, u.1, c.requires.1)

pub used_of-used-requires : goal.used_of-used-requires
used_of-used-requires c = (good-used _ c.args.names.now c.requires.0.is_good).0

pub invariant_of-sheet : goal.invariant_of-sheet
invariant_of-sheet c = record { few = c.requires.0.lent.few_names }

pub read_records-to-requires : goal.read_records-to-requires
read_records-to-requires c =
    let from = c.progress_by-from.ensures in
    standing-first c.requires.0 from.words c.used_of-used.ensures from.numbers

pub row0_of-row0-requires : goal.row0_of-row0-requires
row0_of-row0-requires c =
    let from = c.progress_by-from.ensures in
    reached-small c.requires.0 from.words c.used_of-used.ensures from.numbers c.read_records-to.ensures

pub put_row0-requires : goal.put_row0-requires
put_row0-requires c =
    let from = c.progress_by-from.ensures in
    put-room c.requires.0 from.words c.used_of-used.ensures from.numbers c.read_records-to.ensures (search rules) (good-used _ c.args.names.now c.requires.0.is_good).0

pub returns : goal.returns
returns c =
    let from = c.progress_by-from.ensures in
    record {
      read = good-read c.requires.0 from.words c.used_of-used.ensures from.numbers c.read_records-to.ensures (search rules) (search rules) c.row0_of-row0.ensures c.put_row0.ensures;
      head = head-read c.requires.0 from.words c.used_of-used.ensures from.numbers c.read_records-to.ensures (search rules) c.row0_of-row0.ensures c.put_row0.ensures;
    }
