-- `xsd_write::part::Row::text` meets its contract: the row has so many texts as it uses pairs. Assumes nothing.
use mathlib.Core.Path.{sym, ◌∙◌}
use Rattle.sheet.specs.Rows.{text_at, unpack_row}
use Rattle.xsd_write.proofs.Laws.Rows.{text-none, text-under}
use Rattle.xsd_write.proofs.part.Row.text.Goals as goal

pub returns-then-used_pairs-k : goal.returns-then-used_pairs-k
unfolding unpack_row
returns-then-used_pairs-k c = c.part_of.ensures ∙ sym (text-none _ c.args.k _ (rw c.used_pairs.ensures at c.if-used_pairs-k.true))

pub returns : goal.returns
unfolding text_at unpack_row
returns c =
    let a = c.args in
    c.part_of-2.ensures ∙ rw c.pair-pair.ensures
    (sym (text-under a.self.names.now a.self.numbers _ a.k c.requires (rw c.used_pairs.ensures at c.if-used_pairs-k.false)))
