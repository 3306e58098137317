-- `tape::attributes::find_places` meets its contract. The loop's invariant: of each key the place that is kept, or the lookup in the attributes that are left,
-- answers for all. Assumes nothing.
use Prim.Native.Nat.{ℕ, ◌+◌, ◌-◌, ◌*◌, ◌<◌}
use mathlib.Core.Path.{◌≡◌}
use mathlib.Core.List.{[]}
use lib.ListN.{length, get_or, drop}
use Rattle.xsd_parser.specs.Tape.{pairs_of, attrs_of}
use Rattle.tape.specs.Pairs.{tag_at}
use Rattle.tape.specs.Keys.{key_words, key_count}
use Rattle.tape.specs.Lookup.{lookup_text, value_at, or_other}
use Rattle.tape.proofs.attributes.find_places.Given as goal

abbrev pub invariant-loop-i : goal.invariant-loop-i
invariant-loop-i l =
    (length l.places ≡ key_count)
    × ((k : ℕ) → k < key_count → or_other (value_at l.v.text.now l.v.marks.now (get_or l.places k 0))
    (lookup_text (attrs_of l.v.text.now (pairs_of (2 * (l.count - l.i)) (drop (l.pairs + 2 + 4 * l.i) l.v.marks.now))) (get_or key_words k []))
    ≡ lookup_text (tag_at l.v.text.now l.v.marks.now l.pairs l.count).attributes (get_or key_words k []))
