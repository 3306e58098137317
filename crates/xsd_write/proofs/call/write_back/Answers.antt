-- `xsd_write::call::write_back` meets its contract: 1 and 2 leave the text, and a good sheet is written. Assumes nothing.
use mathlib.Core.Path.{sym, ◌∙◌}
use Rattle.xsd_write.proofs.Laws.Calls.{write-one, write_two, write-through}
use Rattle.xsd_write.proofs.call.write_back.Goals as goal

pub returns-then-not-write_lengths : goal.returns-then-not-write_lengths
returns-then-not-write_lengths c =
    let a = c.args in
    rw c.into.ensures (write-one a.rows.now a.names.now a.text.now (sym c.write_lengths.ensures ∙ c.if-not-write_lengths.true))

pub returns-then-not-is_good : goal.returns-then-not-is_good
returns-then-not-is_good c =
    let a = c.args in
    rw c.into-then-not-is_good.ensures (write_two a.rows.now a.names.now a.text.now (sym c.write_lengths.ensures ∙ c.if-not-write_lengths.false)
    (sym c.is_good.ensures ∙ c.if-not-is_good.true))

pub write_good-requires : goal.write_good-requires
write_good-requires c = sym c.is_good.ensures ∙ c.if-not-is_good.false

pub returns : goal.returns
returns c =
    let a = c.args in
    write-through a.rows.now a.names.now a.text.now
    (sym c.write_lengths.ensures ∙ c.if-not-write_lengths.false)
    (sym c.is_good.ensures ∙ c.if-not-is_good.false) c.write_good.ensures
