-- `rows::form::pairs_by` meets its contract: pair by pair. Assumes nothing.
use lib.Dec.{leb}
use Rattle.sheet.specs.Form.{row_covers}
use Rattle.rows.proofs.Laws.Table.{bit-one}
use Rattle.rows.proofs.form.pairs_by.Goals as goal

pub returns : goal.returns
unfolding row_covers
returns c used_pairs f s t =
    let used = used_pairs c.args.t.tag c.args.t.a in
    rw (c.pair_by.ensures, c.pair_by-2.ensures, c.pair_by-3.ensures, c.wide.ensures, c.wide-2.ensures, f, s, t, bit-one (leb 1 used), bit-one (leb 2 used), bit-one (leb 3 used))
