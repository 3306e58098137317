-- `xsd_write::call::write_held` meets its contract: the text has room, or the offset behind it is past the end. Assumes nothing.
use native.Mathlib.Omega.{arith}
use Rattle.xsd_write.proofs.Laws.Calls.{zeros_filled, written-short, written-whole}
use Rattle.xsd_write.proofs.call.write_held.Goals as goal

pub returns-then-text-used : goal.returns-then-text-used
returns-then-text-used c =
    rw c.into.ensures (written-short c.put_schema-used.ensures (omega (arith, c.put_schema-used.ensures.kept, c.if-text-used.true)) (zeros_filled _ (c.fill.ensures.after (λ y h. h))))

pub returns : goal.returns
returns c =
    written-whole c.put_schema-used.ensures (omega (arith, c.put_schema-used.ensures.kept, c.if-text-used.false)) c.requires.text_value
