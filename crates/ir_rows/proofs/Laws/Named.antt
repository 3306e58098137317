-- Laws of the places of finished types that docs/PORT.md and docs/ARCHITECTURE.md name at the beginning of the design pass. No contract cites them: a lowering
-- keeps no list of the places. Assumes nothing.
use Prim.Native.Nat.{ℕ, suc, ◌+◌}
use mathlib.Core.Path.{◌≡◌, refl, ap}
use mathlib.Core.Bool.{Bool, true}
use mathlib.Core.List.{List, [], ◌∷◌}
use lib.Dec.{ltb}
use lib.ListN.{length, length-append}
use borrow.Author.Tests.{lt-ltb}
use Rattle.text.specs.Text.{every}
use Rattle.text.proofs.Laws.Tests.{and-true, if-keeps}
use Rattle.sheet.specs.Rows.{Row}
use Rattle.xsd_types.specs.Types.{Item, Schema, simple_types, complex_types}
use Rattle.xsd_types.specs.State.{State}
use Rattle.xsd_types.specs.Rows.{item_rows, items_rows}
use Rattle.xsd_types.specs.Places.{rows_from}
use Rattle.xsd_types.proofs.Laws.Places.{rows_from-some, rows_from-parts}
use Rattle.ir_rows.specs.Types.{is_simple, is_complex, places_of, type_places, finished_places}
use Rattle.ir_rows.proofs.Laws.Items.{simple_item, complex_item, simple-places, complex-places}
use Rattle.ir_rows.proofs.Laws.Graph.{Stands}

-- each place lies before the end of the rows
module _ (rows names : List ℕ) (end : ℕ) where
  pub places_of-below : (test : ℕ → Bool) (k : ℕ) (rs : List Row) → rows_from rows names k end ≡ rs → every (λ (p : ℕ). ltb p end) (places_of test k rs) ≡ true
  unfolding places_of every
  places_of-below test k [] e = refl
  places_of-below test k (r ∷ rs) e =
      let rest = places_of-below test (k + 1) rs (rows_from-parts rows names k end r rs e).1 in
      if-keeps (every (λ (p : ℕ). ltb p end)) (test r.tag) (λ h. and-true (lt-ltb k end (rows_from-some rows names k end r rs e)) rest) (λ h. rest)

simple-count : (k : ℕ) (is : List Item) → length (places_of is_simple k (items_rows is)) ≡ length (simple_types is)
unfolding items_rows simple_types simple_item places_of
simple-count k [] = refl
simple-count k (Item.element e ∷ is) = rw (simple-places k (Item.element e) (items_rows is)) (simple-count (k + length (item_rows (Item.element e))) is)
simple-count k (Item.simple_type t ∷ is) = rw (simple-places k (Item.simple_type t) (items_rows is)) (ap suc (simple-count (k + length (item_rows (Item.simple_type t))) is))
simple-count k (Item.complex_type t ∷ is) = rw (simple-places k (Item.complex_type t) (items_rows is)) (simple-count (k + length (item_rows (Item.complex_type t))) is)

complex-count : (k : ℕ) (is : List Item) → length (places_of is_complex k (items_rows is)) ≡ length (complex_types is)
unfolding items_rows complex_types complex_item places_of
complex-count k [] = refl
complex-count k (Item.element e ∷ is) = rw (complex-places k (Item.element e) (items_rows is)) (complex-count (k + length (item_rows (Item.element e))) is)
complex-count k (Item.simple_type t ∷ is) = rw (complex-places k (Item.simple_type t) (items_rows is)) (complex-count (k + length (item_rows (Item.simple_type t))) is)
complex-count k (Item.complex_type t ∷ is) = rw (complex-places k (Item.complex_type t) (items_rows is)) (ap suc (complex-count (k + length (item_rows (Item.complex_type t))) is))

-- as many places as there are finished types
pub type_places-count : (k : ℕ) (is : List Item) → length (type_places k (items_rows is)) ≡ length (simple_types is) + length (complex_types is)
unfolding type_places
type_places-count k is = rw (length-append, simple-count k is, complex-count k is)

abbrev pub finished_types : Schema → ℕ
finished_types s = length (simple_types s.items) + length (complex_types s.items)

pub type_places-finished : (k : ℕ) (s : Schema) → length (type_places k (items_rows s.items)) ≡ finished_types s
type_places-finished k s = type_places-count k s.items

pub finished-types : {s : State} {rows names : List ℕ} {end : ℕ} → Stands s rows names end → length (finished_places rows names end) ≡ finished_types s.reader.schema
finished-types {s = s} h = rw h.finished (type_places-finished 2 s.reader.schema)
