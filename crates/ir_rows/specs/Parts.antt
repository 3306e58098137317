-- The first rows of a schema sheet as the part of it that lowering reads, and what it lowers of them.
--     part_row       the row at a place; part_rows: the rows from a place on
--     part_name      the normalised name of the type whose head stands at a place; part_head: that head, for order 4
--     part_places    the places of the finished types' heads in lowering's order; part_heads: those heads
--     part_types     the graph's rows for the types at the given places
--     part_graph     the graph's rows behind row 0, with the types at the given places
use Rattle.std.specs.Prelude.{ℕ, List}
use Rattle.text.specs.Text.{Text}
use Rattle.sheet.specs.Rows.{Row}
use Rattle.xsd_types.specs.Places.{row_at, rows_from}
use Rattle.rows.specs.declared.part.SheetPart.{SheetPart}
use Rattle.ir_lower.specs.Repeated.{Head}
use Rattle.ir_rows.specs.Places.{name_at}
use Rattle.ir_rows.specs.Types.{type_head_at, finished_places, heads_at, types_graph_rows, graph_row_list}

abbrev pub part_row : SheetPart → ℕ → Row
part_row part p = row_at part.rows.now part.names.now p

abbrev pub part_rows : SheetPart → ℕ → List Row
part_rows part p = rows_from part.rows.now part.names.now p part.end

abbrev pub part_name : SheetPart → ℕ → Text
part_name part p = name_at part.rows.now part.names.now p

abbrev pub part_head : SheetPart → ℕ → Head
part_head part p = type_head_at part.rows.now part.names.now p

abbrev pub part_places : SheetPart → List ℕ
part_places part = finished_places part.rows.now part.names.now part.end

abbrev pub part_heads : SheetPart → List Head
part_heads part = heads_at part.rows.now part.names.now part.end

abbrev pub part_types : SheetPart → List ℕ → List Row
part_types part places = types_graph_rows part.rows.now part.names.now part.end places

abbrev pub part_graph : SheetPart → List ℕ → List Row
part_graph part places = graph_row_list part.rows.now part.names.now part.end places
