-- `tape::short::same_by_eight` meets its contract: both ends are compared. Assumes nothing.
use Rattle.std.specs.Int.{from_le_bytes, to_le_bytes, w64}
use Rattle.tape.proofs.Laws.Short.{same-ends, ends-differ}
use native.Mathlib.Omega.{arith}
use Rattle.tape.proofs.short.same_by_eight.Goals as goal

pub returns-then-eight_at : goal.returns-then-eight_at
returns-then-eight_at c =
    same-ends 8 c.args.a.now c.args.b.now c.eight_at.result c.eight_at-2.result _ _ (from_le_bytes w64) (to_le_bytes w64) c.requires.0 c.requires.1 (omega (arith, c.requires.2))
    c.eight_at.ensures.bytes c.eight_at-2.ensures.bytes c.if-eight_at.true
    c.eight_at-then-eight_at.ensures.number c.eight_at-then-eight_at-2.ensures.number c.eight_at-then-eight_at.ensures.bytes c.eight_at-then-eight_at-2.ensures.bytes

pub returns-else-eight_at : goal.returns-else-eight_at
returns-else-eight_at c =
    ends-differ 8 c.args.a.now c.args.b.now c.eight_at.result c.eight_at-2.result (from_le_bytes w64) c.eight_at.ensures.number c.eight_at-2.ensures.number c.if-eight_at.false
