-- Order 6, the call. "order 1, 21, 15": "nothing changed on 21, target zero on 15; accepted, place is rows used".
--     rows_in        the rows behind row 0 of a graph sheet, with their texts
--     graph_in       those rows, parted
--     in_form        "in paper 01's graph form" and not "two types of one name"
--     row0_of_rows   row 0 of a graph of so many rows; graph_sheet_of: the graph sheet of rows
--     lengths_fit    the lengths of source and target are such that no call gives 1 for them
--     graph_rows_fit  the rows have room in a sheet of the target's lengths; emptied: a sheet of zeros of such lengths
--     Reduction x target answer after    the call: source, target before, number and place, target after
use Rattle.std.specs.Prelude.{◌+◌, ◌≡◌, Bool, true, false, ◌&&◌, List, map, eqb, length, replicate}
use Rattle.sheet.specs.Rows.{Row, Sheet, unpack_row, names_of, sheet_of_rows}
use Rattle.sheet.specs.Form.{tens_of}
use Rattle.sheet.specs.Lengths.{sheet_lengths, fits, Answer}
use Rattle.sheet.specs.Calls.{answered}
use Rattle.sheet.specs.Returned.{accepted, bad_length, no_room_in_graph, not_in_form}
use Rattle.ir_types.specs.Tags.{root_tag}
use Rattle.ir_types.specs.Form.{used_pairs, is_type_tag, count, graph_form}
use Rattle.ir_types.specs.Distinct.{distinct_texts}
use Rattle.ir_types.specs.Row0.{GraphRow0, graph_row0_of, graph_row0_ten}
use Rattle.ir_reduce.specs.Groups.{Parted, parted, rows_of_parted, type_name}
use Rattle.ir_reduce.specs.Reach.{Reduced}

unfoldable pub rows_in : Sheet → List Row
rows_in x = map (unpack_row used_pairs x.names) (tens_of x)

unfoldable pub graph_in : Sheet → Parted
graph_in x = parted (rows_in x)

-- "21 not in paper 01's graph form (..), or two types of one name"
unfoldable pub in_form : Sheet → Bool
in_form x = graph_form x && distinct_texts (map type_name (graph_in x).types)

-- "Row 0: 0, rows used, names used, root elements, types, then zeros."
unfoldable pub row0_of_rows : List Row → GraphRow0
row0_of_rows rs =
    let tags = map (λ (r : Row). r.tag) rs in
    graph_row0_of (1 + length rs) (length (names_of rs)) (count (λ tag. eqb tag root_tag) tags) (count is_type_tag tags)

unfoldable pub graph_sheet_of : List Row → Sheet → Sheet
graph_sheet_of rs target = sheet_of_rows (graph_row0_ten (row0_of_rows rs)) rs (length target.rows) (length target.names)

unfoldable pub lengths_fit : Sheet → Sheet → Bool
lengths_fit x target = sheet_lengths (length x.rows) (length x.names) && sheet_lengths (length target.rows) (length target.names)

unfoldable pub graph_rows_fit : List Row → Sheet → Bool
graph_rows_fit rs target = fits (1 + length rs) (length (names_of rs)) (length target.rows) (length target.names)

unfoldable pub emptied : Sheet → Sheet
emptied target = record { rows = replicate (length target.rows) 0; names = replicate (length target.names) 0 }

-- "after 1 and before 15; nothing changed on 21, target zero on 15; accepted, place is rows used"
pub data Reduction (x target : Sheet) : Answer → Sheet → Type 0 where
  bad_lengths : lengths_fit x target ≡ false → Reduction x target (answered bad_length 0) target
  no_form : lengths_fit x target ≡ true → in_form x ≡ false → Reduction x target (answered not_in_form 0) target
  tight : lengths_fit x target ≡ true → in_form x ≡ true → (q : Parted) → Reduced (graph_in x) q → graph_rows_fit (rows_of_parted q) target ≡ false
      → Reduction x target (answered no_room_in_graph 0) (emptied target)
  fitting : lengths_fit x target ≡ true → in_form x ≡ true → (q : Parted) → Reduced (graph_in x) q → graph_rows_fit (rows_of_parted q) target ≡ true
      → Reduction x target (answered accepted (1 + length (rows_of_parted q))) (graph_sheet_of (rows_of_parted q) target)
