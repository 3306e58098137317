-- The types of a schema sheet by the places of their heads. Paper 01: "Only finished types are lowered, simple ones before complex."
--     is_simple, is_complex, is_type    the tag of a finished type's head: of a simple one, of a complex one, of either
--     places_of          the places of the rows whose tag passes a test; the list's first row is at place p
--     type_places        the places of the finished types' heads in lowering's order
--     finished_places    those of the rows from row 2 up to a place
--     type_head_at            the head at a place, for order 4; heads_at: those of the finished types
--     types_graph_rows         the graph's rows for the types at the given places
--     graph_row_list         the graph's rows behind row 0
use Rattle.std.specs.Prelude.{ℕ, ◌+◌, List, [], ◌∷◌, ◌++◌, map, Bool, false, ◌||◌, eqb, if◌then◌else◌}
use Rattle.text.specs.Text.{between}
use Rattle.sheet.specs.Rows.{Row}
use Rattle.xsd_types.specs.Tags.{simple_type_tag, sequence_tag, any_tag}
use Rattle.ir_lower.specs.Repeated.{Head}
use Rattle.xsd_types.specs.Places.{row_at, rows_from}
use Rattle.ir_rows.specs.Places.{name_at}
use Rattle.ir_rows.specs.Lowered.{lowered_row, type_rows_of, root_rows}

unfoldable pub is_simple : ℕ → Bool
is_simple tag = eqb tag simple_type_tag

unfoldable pub is_complex : ℕ → Bool
is_complex tag = between sequence_tag any_tag tag

unfoldable pub is_type : ℕ → Bool
is_type tag = is_simple tag || is_complex tag

unfoldable pub places_of : (ℕ → Bool) → ℕ → List Row → List ℕ
places_of test p [] = []
places_of test p (r ∷ rs) = if test r.tag then p ∷ places_of test (p + 1) rs else places_of test (p + 1) rs

unfoldable pub type_places : ℕ → List Row → List ℕ
type_places p rs = places_of is_simple p rs ++ places_of is_complex p rs

abbrev pub finished_places : List ℕ → List ℕ → ℕ → List ℕ
finished_places rows names end = type_places 2 (rows_from rows names 2 end)

unfoldable pub type_head_at : List ℕ → List ℕ → ℕ → Head
type_head_at rows names p = record { row = p; name = name_at rows names p }

abbrev pub heads_at : List ℕ → List ℕ → ℕ → List Head
heads_at rows names end = map (type_head_at rows names) (finished_places rows names end)

unfoldable pub types_graph_rows : List ℕ → List ℕ → ℕ → List ℕ → List Row
types_graph_rows rows names end [] = []
types_graph_rows rows names end (p ∷ ps) = type_rows_of (rows_from rows names p end) ++ types_graph_rows rows names end ps

-- "Row 1: tag 1, namespace. Then roots, then types"
unfoldable pub graph_row_list : List ℕ → List ℕ → ℕ → List ℕ → List Row
graph_row_list rows names end places =
    lowered_row false (row_at rows names 1) ++ (root_rows (rows_from rows names 2 end) ++ types_graph_rows rows names end places)
