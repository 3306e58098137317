-- `tape::short::same_by_four` meets its contract: both ends are compared. Assumes nothing.
use Rattle.std.specs.Int.{from_le_bytes, to_le_bytes, w32}
use Rattle.tape.proofs.Laws.Short.{same-ends, ends-differ}
use native.Mathlib.Omega.{arith}
use Rattle.tape.proofs.short.same_by_four.Goals as goal

pub returns-then-four_at : goal.returns-then-four_at
returns-then-four_at c =
    same-ends 4 c.args.a.now c.args.b.now c.four_at.result c.four_at-2.result _ _ (from_le_bytes w32) (to_le_bytes w32) c.requires.0 c.requires.1 (omega (arith, c.requires.2))
    c.four_at.ensures.bytes c.four_at-2.ensures.bytes c.if-four_at.true
    c.four_at-then-four_at.ensures.number c.four_at-then-four_at-2.ensures.number c.four_at-then-four_at.ensures.bytes c.four_at-then-four_at-2.ensures.bytes

pub returns-else-four_at : goal.returns-else-four_at
returns-else-four_at c =
    ends-differ 4 c.args.a.now c.args.b.now c.four_at.result c.four_at-2.result (from_le_bytes w32) c.four_at.ensures.number c.four_at-2.ensures.number c.if-four_at.false
