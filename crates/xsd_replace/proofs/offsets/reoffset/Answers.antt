-- `xsd_replace::offsets::reoffset` meets its contract. The loop's invariant: whatever the rows from `place` on are to become, those from i on, with their texts from
-- `next` on, are still to become that. Assumes nothing.
use native.Mathlib.Omega.{arith}
use Rattle.xsd_replace.proofs.Laws.Offsets.{offsets-end}
use Rattle.xsd_replace.proofs.offsets.reoffset.Goals as goal

pub reoffset_row-next-requires-clause-offsets_of : goal.reoffset_row-next-requires-clause-offsets_of
reoffset_row-next-requires-clause-offsets_of c =
    let p = c.requires in
    record { goal = p.goal; total = p.total; offsets = c.loop-i.invariant p.goal p.total p.offsets }

pub returns : goal.returns
returns c goal total o = offsets-end (c.loop-i.invariant goal total o) (omega arith)
