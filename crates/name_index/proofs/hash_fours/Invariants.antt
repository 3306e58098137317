-- `name_index::hash_fours` meets its contract. The loop's invariant: the hash so far, with what is left of the text, answers for the whole, and is below 2^32.
use Prim.Native.Nat.{◌*◌, ◌<◌}
use mathlib.Core.Path.{◌≡◌}
use lib.ListN.{drop}
use Rattle.name_index.specs.Hash.{hash_from, hash}
use Rattle.name_index.proofs.hash_fours.Given as goal

abbrev pub invariant-loop-a : goal.invariant-loop-a
invariant-loop-a l = (l.h < 4294967296) × (hash_from l.h (drop (4 * l.a-index) l.text) ≡ hash l.text)
