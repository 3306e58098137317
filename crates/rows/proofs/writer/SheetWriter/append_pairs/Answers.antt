-- `rows::writer::SheetWriter::append_pairs` meets its contract: the row and its texts stand behind the used parts. Assumes nothing.
use mathlib.Core.Path.{refl}
use Rattle.sheet.specs.Rows.{row}
use Rattle.rows.specs.Texts.{used_texts}
use Rattle.rows.specs.Packing.{row_of}
use Rattle.rows.proofs.Laws.Texts.{used-bytes}
use Rattle.rows.proofs.Laws.More.{holds_more}
use Rattle.rows.proofs.writer.SheetWriter.append_pairs.Goals as goal

pub returns : goal.returns
unfolding row
returns c =
    let a = c.args in
    let r = row_of a.n (used_texts a.pairs a.first.now a.second.now) in
    let bytes = used-bytes a.pairs a.first.now a.second.now c.requires.pairs in
    let set = c.set_row in
    let stored = c.put_texts-end in
    record {
      same = record { rows = refl; names = refl; rows_length = set.auto.rows; names_length = stored.auto.names };
      holds = λ z rs h. holds_more r stored.result h c.requires.room.rows (rw bytes c.requires.room.names) (set.ensures a.first.now a.second.now refl refl)
          (rw bytes stored.ensures.texts) (rw bytes stored.ensures.end);
    }
