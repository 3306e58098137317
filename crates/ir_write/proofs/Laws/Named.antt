-- Named in docs/PORT.md. No contract cites them: `put_types` goes over the places of the rows themselves, no longer over entries that hold places. These say
-- the turn of a loop over entries. Assumes nothing.
--     entry_places    the places that entries hold, each in its low 16 bits
use Prim.Native.Nat.{ℕ, ◌+◌, ◌%◌, ◌<◌}
use native.Mathlib.Numerals.{add-one}
use mathlib.Core.Path.{◌≡◌}
use mathlib.Core.Bool.{true}
use mathlib.Core.List.{List, ◌∷◌, ◌++◌, map}
use lib.Dec.{ltb}
use lib.ListN.{length, get_or, drop}
use lib.Seq.{drop-cons}
use Rattle.text.specs.Text.{every}
use Rattle.std.proofs.lemmas.Bool.{and_parts}
use Rattle.xsd_types.specs.Places.{rows_from}
use Rattle.ir_rows.specs.Lowered.{type_rows_of}
use Rattle.ir_rows.specs.Types.{types_graph_rows}

unfoldable pub entry_places : List ℕ → List ℕ
entry_places entries = map (λ (e : ℕ). e % 65536) entries

-- the places that are left are the one at hand and those behind it
pub left : (k : ℕ) (entries : List ℕ) → k < length entries → entry_places (drop k entries) ≡ get_or entries k 0 % 65536 ∷ entry_places (drop (k + 1) entries)
unfolding entry_places
left k entries h = rw (drop-cons entries k 0, add-one k)

-- where all are below the end, so is the one at hand
pub inside : (end k : ℕ) (entries : List ℕ) → k < length entries → every (λ (p : ℕ). ltb p end) (entry_places (drop k entries)) ≡ true
    → (ltb (get_or entries k 0 % 65536) end ≡ true) × (every (λ (p : ℕ). ltb p end) (entry_places (drop (k + 1) entries)) ≡ true)
unfolding every
inside end k entries h e = and_parts _ _ (rw (left k entries h) at e)

-- the types that are left are the one at that place and those behind it
pub rest : (rows names : List ℕ) (end k : ℕ) (entries : List ℕ) {place : ℕ} → k < length entries → place ≡ get_or entries k 0 % 65536
    → types_graph_rows rows names end (entry_places (drop k entries)) ≡ type_rows_of (rows_from rows names place end) ++ types_graph_rows rows names end (entry_places (drop (k + 1) entries))
unfolding types_graph_rows
rest rows names end k entries h e = rw (e, left k entries h)
