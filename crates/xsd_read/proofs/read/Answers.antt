-- `xsd_read::read` meets its contract: 1 and 2 leave everything, and a good sheet is read. Assumes nothing.
use mathlib.Core.Path.{refl, sym, ◌∙◌}
use Rattle.xsd_read.proofs.Laws.Calls.{read_one, read-two, read_through, good-sheet}
use Rattle.xsd_read.proofs.read.Goals as goal

pub returns-then-not-read_lengths : goal.returns-then-not-read_lengths
returns-then-not-read_lengths c =
    let a = c.args in
    rw c.into.ensures (read_one a.rows.now a.names.now a.text.now a.marks.now refl (sym c.read_lengths.ensures ∙ c.if-not-read_lengths.true))

pub returns-in_default : goal.returns-in_default
returns-in_default c =
    let a = c.args in
    rw c.into-in_default.ensures
    (read-two a.rows.now a.names.now a.text.now a.marks.now refl (sym c.read_lengths.ensures ∙ c.if-not-read_lengths.false)
    c.in_default.ensures)

pub read_counted-requires : goal.read_counted-requires
read_counted-requires c =
    let a = c.args in
    (good-sheet a.rows.now a.names.now a.text.now a.marks.now (sym c.read_lengths.ensures ∙ c.if-not-read_lengths.false) c.in-Some.ensures.0, c.in-Some.ensures.1)

pub returns : goal.returns
returns c =
    let a = c.args in
    read_through a.rows.now a.names.now a.text.now a.marks.now
    (sym c.read_lengths.ensures ∙ c.if-not-read_lengths.false)
    c.in-Some.ensures.0 c.read_counted.ensures
