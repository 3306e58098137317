-- `name_index::hash_spelled` meets its contract. The loop's invariant: the hash so far, with what is left of the name, answers for the whole, and is below 2^32.
use Rattle.std.proofs.Common.{◌≡◌, ◌<◌}
use Rattle.names.specs.Same.{bytes_left, spelled_text}
use Rattle.name_index.specs.Hash.{hash_from, hash}
use Rattle.name_index.proofs.hash_spelled.Given as goal

abbrev pub invariant-loop-b : goal.invariant-loop-b
invariant-loop-b l =
    (goal.iterator-loop-b).can_next l.b-iterator × (goal.iterator-loop-b).is_finite l.b-iterator
    × (l.h < 4294967296) × (hash_from l.h (bytes_left l.b-iterator) ≡ hash (spelled_text l.name))
