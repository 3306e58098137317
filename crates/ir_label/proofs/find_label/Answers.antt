-- `ir_label::find_label` meets its contract: the rows are as many as a tenth of their numbers. Assumes nothing.
use Rattle.std.proofs.Common.{refl}
use Rattle.ir_types.specs.Label.{row_ten}
use Rattle.ir_label.proofs.Laws.Spots.{rows-odd, rows_short, rows_row}
use Rattle.ir_label.proofs.find_label.Goals as goal

pub returns-then-n-ne0 : goal.returns-then-n-ne0
returns-then-n-ne0 c = (rows-odd c.args.rows.now c.args.names.now c.args.words.now c.args.k c.if-n-ne0.true, refl)

pub returns-then-n-k : goal.returns-then-n-k
returns-then-n-k c = (rows_short c.args.rows.now c.args.names.now c.args.words.now c.args.k c.if-n-ne0.false c.if-n-k.true, refl)

pub returns : goal.returns
unfolding row_ten
returns c =
    let a = c.args in
    let row = rows_row a.rows.now a.names.now a.words.now a.k c.if-n-ne0.false c.if-n-k.false in
    rw (row, ← c.ten_at.ensures) c.row_spot.ensures
