-- What a lowering leaves under each number. Paper 01, "Returned numbers", the column Left; order 4 for 20.
--     changes_nothing    1, 2 and 14: "nothing changed"
--     clears_graph       12, 13, 20 and 15: "graph and scratch zero"
--     clears_scratch     these and 0: the scratch is "zero afterwards"
--     no_graph           a graph sheet of zeros, as long as the one lent
use Rattle.std.specs.Prelude.{ℕ, Bool, ◌||◌, eqb}
use Rattle.text.specs.Text.{between}
use Rattle.sheet.specs.Rows.{Sheet}
use Rattle.sheet.specs.Returned.{accepted, bad_length, not_good, no_root, unknown_base, short_scratch, no_room_in_graph, repeated_name}
use Rattle.ir_lower.specs.Call.{zeros}

unfoldable pub changes_nothing : ℕ → Bool
changes_nothing n = between bad_length not_good n || eqb n short_scratch

unfoldable pub clears_graph : ℕ → Bool
clears_graph n = between no_root unknown_base n || eqb n no_room_in_graph || eqb n repeated_name

unfoldable pub clears_scratch : ℕ → Bool
clears_scratch n = eqb n accepted || clears_graph n

unfoldable pub no_graph : Sheet → Sheet
no_graph x = record { rows = zeros x.rows; names = zeros x.names }
