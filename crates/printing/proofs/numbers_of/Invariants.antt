-- The loop of `numbers_of`: the numbers so far stand in the space, which is as long as it was. Assumes nothing.
use Rattle.std.proofs.Common.{◌≡◌, length, take, map}
use Rattle.std.specs.Int.{from_le_bytes, w32}
use Rattle.printing.proofs.numbers_of.Given as goal

abbrev pub invariant-loop-at : goal.invariant-loop-at
invariant-loop-at l = (length l.space ≡ length l.initial.space) × (take l.at l.space ≡ map (from_le_bytes w32) (take l.at l.fours))
