-- `name_index::hash_text` meets its contract. The loop's invariant: the hash so far, with what is left of the bytes behind the fours, answers for the whole text, and
-- is below 2^32.
use Prim.Native.Nat.{◌<◌}
use mathlib.Core.Path.{◌≡◌}
use lib.ListN.{drop}
use Rattle.name_index.specs.Hash.{hash_from, hash}
use Rattle.name_index.proofs.hash_text.Given as goal

abbrev pub invariant-loop-b : goal.invariant-loop-b
invariant-loop-b l = (l.h < 4294967296) × (hash_from l.h (drop l.b-index l.b-items) ≡ hash l.text)
