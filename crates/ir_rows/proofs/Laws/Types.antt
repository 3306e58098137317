-- The types of a sheet's graph by the places of their heads: where the rows are those of a schema's items, the places stand for the definitions, and
-- the heads there for the schema's heads, in lowering's order. Assumes nothing.
--     Matched       places and definitions, each place's rows lowered to those of the definition beside it
use Prim.Native.Nat.{ℕ, suc, ◌+◌}
use mathlib.Core.Path.{◌≡◌, refl, ap, ◌∙◌}
use mathlib.Core.Bool.{true, false, false≢true, true≢false}
use mathlib.Core.List.{List, [], ◌∷◌, ◌++◌, map, map-append}
use mathlib.Core.Option.{some, none}
use lib.ListN.{length}
use Rattle.text.proofs.Laws.Tests.{or-false-left, or-false-right}
use Rattle.names.specs.Names.{normalize_type_name}
use Rattle.sheet.specs.Rows.{Row}
use Rattle.xsd_types.specs.Types.{SimpleType, Item, Schema, simple_types, complex_types}
use Rattle.xsd_types.specs.Rows.{item_rows, items_rows}
use Rattle.xsd_types.specs.Back.{text0}
use Rattle.xsd_types.proofs.Laws.Groups.{is_group, as_group}
use Rattle.xsd_types.proofs.Laws.Items.{group-item}
use Rattle.ir_types.specs.Types.{TypeDef, TypeGraph}
use Rattle.ir_types.specs.Rows.{type_rows, types_rows as graph_types}
use Rattle.xsd_types.specs.Refused.{is_none, refused_base}
use Rattle.xsd_types.proofs.Laws.Refused.{head_first-items}
use Rattle.ir_lower.proofs.Laws.Refusals.{refused-base}
use Rattle.ir_lower.specs.Lower.{lower_simple_type, lower_complex_type, any_unknown, with_definition, simple_definitions, finished_definitions, lower}
use Rattle.ir_lower.specs.Repeated.{simple_head, complex_head, heads_of, heads}
use Rattle.ir_lower.proofs.Laws.Types.{lower-some, lower-types}
use Rattle.xsd_types.specs.Places.{row_at, rows_from}
use Rattle.ir_rows.specs.Places.{name_at}
use Rattle.ir_rows.specs.Lowered.{type_rows_of}
use Rattle.ir_rows.specs.Types.{is_simple, is_complex, places_of, type_places, finished_places, type_head_at, heads_at, types_graph_rows}
use Rattle.xsd_types.proofs.Laws.Places.{row_at-first, rows_from-behind}
use Rattle.ir_rows.proofs.Laws.Items.{simple_item, complex_item, simple-places, complex-places}
use Rattle.ir_rows.proofs.Laws.Definitions.{complex-rows, simple-rows, simple-head-name, complex-head-name}

pub data Matched (rows names : List ℕ) (end : ℕ) : List ℕ → List TypeDef → Type 0 where
  nothing : Matched rows names end [] []
  both : {p : ℕ} {d : TypeDef} {ps : List ℕ} {ds : List TypeDef} → type_rows_of (rows_from rows names p end) ≡ type_rows d → Matched rows names end ps ds → Matched rows names end (p ∷ ps) (d ∷ ds)

module _ (rows names : List ℕ) (end : ℕ) where
  -- ---- what matched places give

  matched-rows : {ps : List ℕ} {ds : List TypeDef} → Matched rows names end ps ds → types_graph_rows rows names end ps ≡ graph_types ds
  unfolding types_graph_rows graph_types
  matched-rows nothing = refl
  matched-rows (both s m) = rw (s, matched-rows m)

  matched-length : {ps : List ℕ} {ds : List TypeDef} → Matched rows names end ps ds → length ps ≡ length ds
  matched-length nothing = refl
  matched-length (both s m) = ap suc (matched-length m)

  matched-append : {ps qs : List ℕ} {ds es : List TypeDef} → Matched rows names end ps ds → Matched rows names end qs es → Matched rows names end (ps ++ qs) (ds ++ es)
  matched-append nothing n = n
  matched-append (both s m) n = both s (matched-append m n)

  -- ---- the places of a schema's types stand for their definitions

  -- a simple type that is not refused has a definition
  matched-known : (k : ℕ) (t : SimpleType) (ps : List ℕ) (ds : List TypeDef)
      → ((d : TypeDef) → lower_simple_type t ≡ some d → type_rows_of (rows_from rows names k end) ≡ type_rows d) → refused_base t ≡ false
      → Matched rows names end ps ds → Matched rows names end (k ∷ ps) (with_definition (lower_simple_type t) ds)
  unfolding is_none with_definition
  matched-known k t ps ds stands u m =
      (elim (lower_simple_type t) as (λ o. lower_simple_type t ≡ o → is_none o ≡ false → Matched rows names end (k ∷ ps) (with_definition o ds))
      [ none ↦ λ q w. absurd (true≢false w) | some d ↦ λ q w. both (stands d q) m ]) refl (refused-base t ∙ u)

  -- what holds before the rows of no item, and before an item's where it holds behind them, holds before the rows of all items
  items-walk : (P : ℕ → List Item → Type 0) → ((k : ℕ) → P k [])
      → ((k : ℕ) (i : Item) (is : List Item) → rows_from rows names k end ≡ item_rows i ++ items_rows is → P (k + length (item_rows i)) is → P k (i ∷ is))
      → (k : ℕ) (is : List Item) → rows_from rows names k end ≡ items_rows is → P k is
  unfolding items_rows
  items-walk P last more k [] e = last k
  items-walk P last more k (i ∷ is) e =
      more k i is e (items-walk P last more (k + length (item_rows i)) is (rows_from-behind rows names k end (item_rows i) (items_rows is) e))

  abbrev SimpleMatched : ℕ → List Item → Type 0
  SimpleMatched k is = any_unknown (simple_types is) ≡ false → Matched rows names end (places_of is_simple k (items_rows is)) (simple_definitions (simple_types is))

  simple-more : (k : ℕ) (i : Item) (is : List Item) → rows_from rows names k end ≡ item_rows i ++ items_rows is
      → SimpleMatched (k + length (item_rows i)) is → SimpleMatched k (i ∷ is)
  unfolding items_rows simple_types simple_item any_unknown simple_definitions
  simple-more k (Item.element x) is e rest u = rw (simple-places k (Item.element x) (items_rows is)) (rest u)
  simple-more k (Item.simple_type t) is e rest u =
      rw (simple-places k (Item.simple_type t) (items_rows is))
      (matched-known k t _ _ (λ d q. ap type_rows_of e ∙ simple-rows t (items_rows is) (head_first-items is) d q) (or-false-left (refused_base t) (any_unknown (simple_types is)) u)
      (rest (or-false-right (refused_base t) (any_unknown (simple_types is)) u)))
  simple-more k (Item.complex_type t) is e rest u = rw (simple-places k (Item.complex_type t) (items_rows is)) (rest u)

  simple-matched : (k : ℕ) (is : List Item) → rows_from rows names k end ≡ items_rows is → SimpleMatched k is
  unfolding items_rows simple_types places_of simple_definitions
  simple-matched = items-walk SimpleMatched (λ k u. nothing) simple-more

  abbrev ComplexMatched : ℕ → List Item → Type 0
  ComplexMatched k is = Matched rows names end (places_of is_complex k (items_rows is)) (map lower_complex_type (complex_types is))

  complex-more : (k : ℕ) (i : Item) (is : List Item) → rows_from rows names k end ≡ item_rows i ++ items_rows is
      → ComplexMatched (k + length (item_rows i)) is → ComplexMatched k (i ∷ is)
  unfolding items_rows complex_types complex_item
  complex-more k (Item.element x) is e rest = rw (complex-places k (Item.element x) (items_rows is)) rest
  complex-more k (Item.simple_type t) is e rest = rw (complex-places k (Item.simple_type t) (items_rows is)) rest
  complex-more k (Item.complex_type t) is e rest =
      rw (complex-places k (Item.complex_type t) (items_rows is)) (both (ap type_rows_of e ∙ complex-rows t (items_rows is) (head_first-items is)) rest)

  complex-matched : (k : ℕ) (is : List Item) → rows_from rows names k end ≡ items_rows is → ComplexMatched k is
  unfolding items_rows complex_types places_of
  complex-matched = items-walk ComplexMatched (λ k. nothing) complex-more

  module _ (s : Schema) (e : rows_from rows names 2 end ≡ items_rows s.items) (g : TypeGraph) (l : lower s ≡ some g) where
    types-matched : Matched rows names end (finished_places rows names end) g.types
    unfolding type_places finished_definitions
    types-matched = rw (e, lower-types s g l) (matched-append (simple-matched 2 s.items e (lower-some s g l).0) (complex-matched 2 s.items e))

    pub types-rows : types_graph_rows rows names end (finished_places rows names end) ≡ graph_types g.types
    types-rows = matched-rows types-matched

    pub types-count : length (finished_places rows names end) ≡ length g.types
    types-count = matched-length types-matched

  -- ---- the heads at these places are the schema's

  row-group : (k : ℕ) (rs more : List Row) → is_group rs ≡ true → rows_from rows names k end ≡ rs ++ more → row_at rows names k ≡ (as_group rs).head
  unfolding is_group as_group
  row-group k [] more g e = absurd (false≢true g)
  row-group k (r ∷ cs) more g e = row_at-first rows names k end r (cs ++ more) e

  item-name : (k : ℕ) (i : Item) (is : List Item) → rows_from rows names k end ≡ item_rows i ++ items_rows is → name_at rows names k ≡ normalize_type_name (text0 (as_group (item_rows i)).head)
  unfolding name_at
  item-name k i is e = ap (λ (r : Row). normalize_type_name (text0 r)) (row-group k (item_rows i) (items_rows is) (group-item i) e)

  abbrev SimpleHeads : ℕ → List Item → Type 0
  SimpleHeads k is = map (type_head_at rows names) (places_of is_simple k (items_rows is)) ≡ heads_of simple_head k is

  simple-head-more : (k : ℕ) (i : Item) (is : List Item) → rows_from rows names k end ≡ item_rows i ++ items_rows is
      → SimpleHeads (k + length (item_rows i)) is → SimpleHeads k (i ∷ is)
  unfolding items_rows simple_item type_head_at heads_of simple_head
  simple-head-more k (Item.element x) is e rest = rw (simple-places k (Item.element x) (items_rows is)) rest
  simple-head-more k (Item.simple_type t) is e rest =
      rw (simple-places k (Item.simple_type t) (items_rows is)) (rw (item-name k (Item.simple_type t) is e ∙ simple-head-name t, rest))
  simple-head-more k (Item.complex_type t) is e rest = rw (simple-places k (Item.complex_type t) (items_rows is)) rest

  simple-heads_at : (k : ℕ) (is : List Item) → rows_from rows names k end ≡ items_rows is → SimpleHeads k is
  unfolding items_rows places_of heads_of
  simple-heads_at = items-walk SimpleHeads (λ k. refl) simple-head-more

  abbrev ComplexHeads : ℕ → List Item → Type 0
  ComplexHeads k is = map (type_head_at rows names) (places_of is_complex k (items_rows is)) ≡ heads_of complex_head k is

  complex-head-more : (k : ℕ) (i : Item) (is : List Item) → rows_from rows names k end ≡ item_rows i ++ items_rows is
      → ComplexHeads (k + length (item_rows i)) is → ComplexHeads k (i ∷ is)
  unfolding items_rows complex_item type_head_at heads_of complex_head
  complex-head-more k (Item.element x) is e rest = rw (complex-places k (Item.element x) (items_rows is)) rest
  complex-head-more k (Item.simple_type t) is e rest = rw (complex-places k (Item.simple_type t) (items_rows is)) rest
  complex-head-more k (Item.complex_type t) is e rest =
      rw (complex-places k (Item.complex_type t) (items_rows is)) (rw (item-name k (Item.complex_type t) is e ∙ complex-head-name t, rest))

  complex-heads_at : (k : ℕ) (is : List Item) → rows_from rows names k end ≡ items_rows is → ComplexHeads k is
  unfolding items_rows places_of heads_of
  complex-heads_at = items-walk ComplexHeads (λ k. refl) complex-head-more

  pub types-heads : (is : List Item) → rows_from rows names 2 end ≡ items_rows is → heads_at rows names end ≡ heads 2 is
  unfolding type_places heads
  types-heads is e =
      rw e (map-append (type_head_at rows names) (places_of is_simple 2 (items_rows is)) (places_of is_complex 2 (items_rows is)) ∙ rw (simple-heads_at 2 is e, complex-heads_at 2 is e))
