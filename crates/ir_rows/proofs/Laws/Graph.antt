-- The graph's rows from a schema sheet's rows: where the items' rows stand from place 2 up to the end of the finished items,
-- what is computed from them is the rows of the graph that `lower` gives. Assumes nothing.
use Prim.Native.Nat.{ℕ, ◌≤◌}
use mathlib.Core.Path.{◌≡◌, ap}
use mathlib.Core.Bool.{false}
use mathlib.Core.List.{List, [], ◌∷◌, map}
use mathlib.Core.Option.{some, none}
use native.Mathlib.Omega.{arith}
use lib.ListN.{length, length-map}
use Rattle.sheet.specs.Rows.{Row, row}
use Rattle.xsd_types.specs.State.{State}
use Rattle.xsd_types.specs.Rows.{items_rows}
use Rattle.xsd_types.specs.Back.{text0}
use Rattle.ir_types.specs.Types.{TypeGraph}
use Rattle.ir_types.specs.Rows.{root_row, rows_of as graph_rows_of}
use Rattle.ir_lower.specs.Lower.{lower, unknown_row}
use Rattle.ir_lower.specs.Repeated.{first_repeated, repeated_row}
use Rattle.ir_lower.proofs.Laws.Types.{lower-namespace, lower-roots}
use Rattle.xsd_types.specs.Places.{row_at, rows_from}
use Rattle.ir_rows.specs.Lowered.{lowered_as, lowered_row, root_rows}
use Rattle.xsd_types.specs.Refused.{refused_place}
use Rattle.ir_rows.specs.Types.{finished_places, heads_at, graph_row_list}
use Rattle.ir_rows.proofs.Laws.Items.{refused_place-items, refused_place-refused, refused_place-lowered, root_rows-items}
use Rattle.ir_rows.proofs.Laws.Types.{types-rows, types-count, types-heads}

-- row 1 by its tag and its text: what else stands in it is not lowered, order 7's count neither
pub namespace-lowered : (r : Row) → r.tag ≡ 1 → lowered_row false r ≡ row 1 (text0 r ∷ []) 0 0 0 ∷ []
unfolding lowered_row lowered_as row
namespace-lowered r e = rw e

-- the rows of a state's finished items end at `end`, and row 1 has its namespace
pub record Stands (s : State) (rows names : List ℕ) (end : ℕ) : Type 0 where
  pub finished : rows_from rows names 2 end ≡ items_rows s.reader.schema.items
  pub namespace : lowered_row false (row_at rows names 1) ≡ row 1 (s.reader.schema.target_namespace ∷ []) 0 0 0 ∷ []

module _ {s : State} {rows names : List ℕ} {end : ℕ} (h : Stands s rows names end) where
  -- the first head whose name came before
  pub repeated-heads : first_repeated [] (heads_at rows names end) ≡ repeated_row s.reader.schema
  unfolding repeated_row
  repeated-heads = ap (first_repeated []) (types-heads rows names end s.reader.schema.items h.finished)

  -- the place of the first refused simple type, 0 exactly if lowering succeeds
  pub unknown-place : refused_place 2 (rows_from rows names 2 end) ≡ unknown_row 2 s.reader.schema.items
  unknown-place = rw h.finished (refused_place-items 2 s.reader.schema.items)

  pub unknown-refused : lower s.reader.schema ≡ none → 1 ≤ refused_place 2 (rows_from rows names 2 end)
  unknown-refused l = rw h.finished (refused_place-refused 2 s.reader.schema (omega arith) l)

  pub unknown-lowered : (g : TypeGraph) → lower s.reader.schema ≡ some g → refused_place 2 (rows_from rows names 2 end) ≡ 0
  unknown-lowered g l = rw h.finished (refused_place-lowered 2 s.reader.schema g l)

  -- what the sheet's rows give is the graph that `lower` gives
  module _ (g : TypeGraph) (l : lower s.reader.schema ≡ some g) where
    pub root-rows : root_rows (rows_from rows names 2 end) ≡ map root_row g.root_elements
    root-rows = rw (h.finished, lower-roots s.reader.schema g l) (root_rows-items s.reader.schema.items)

    pub root-count : length (root_rows (rows_from rows names 2 end)) ≡ length g.root_elements
    root-count = rw root-rows (length-map g.root_elements root_row)

    pub type-count : length (finished_places rows names end) ≡ length g.types
    type-count = types-count rows names end s.reader.schema h.finished g l

    pub graph-rows : graph_row_list rows names end (finished_places rows names end) ≡ graph_rows_of g
    unfolding graph_row_list graph_rows_of
    graph-rows = rw (h.namespace, root-rows, types-rows rows names end s.reader.schema h.finished g l, lower-namespace s.reader.schema g l)
