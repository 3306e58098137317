-- Row 0 of a graph sheet.
--     counted_row0   row 0 of a graph, as the numbers that a sheet holds
use Rattle.std.specs.Prelude.{ℕ, List, [], ◌∷◌}
use Rattle.sheet.specs.Rows.{numbers}
use Rattle.rows.specs.declared.numbers.Used.{Used}
use Rattle.ir_types.specs.Row0.{graph_row0_of, graph_row0_ten}

abbrev pub counted_row0 : Used → ℕ → ℕ → List ℕ
counted_row0 used roots types = numbers (graph_row0_ten (graph_row0_of used.rows used.names roots types) ∷ [])
