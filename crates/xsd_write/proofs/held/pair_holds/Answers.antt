-- `xsd_write::held::pair_holds` meets its contract: the text under the pair, which is held where it lies in what needs no look. Assumes nothing.
use native.Mathlib.Omega.{arith}
use mathlib.Core.Path.{sym}
use Rattle.sheet.specs.Rows.{text_at}
use Rattle.xsd_write.proofs.Laws.Held.{plain-holds}
use Rattle.xsd_write.proofs.held.pair_holds.Goals as goal

pub returns-then-pair-clear-2 : goal.returns-then-pair-clear-2
returns-then-pair-clear-2 c =
    let a = c.args in
    rw c.if-not-used.false (sym (plain-holds a.names.now a.clear a.pair.at a.pair.len (omega (arith, c.if-pair-clear.true, c.if-pair-clear-2.true)) c.requires))

pub returns : goal.returns
unfolding text_at
returns c = rw (c.if-not-used.false, ← c.part_of.ensures) c.holds.ensures
