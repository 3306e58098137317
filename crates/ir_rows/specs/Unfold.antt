-- One name that unfolds every definition of this crate, for examples by computation.
use Rattle.ir_rows.specs.Places.{name_at}
use Rattle.ir_rows.specs.Lowered.{reference_texts, value_row, opaque_row, lowered_field_row, simple_row, code_rows, lowered_as, lowered_row, child_rows, type_rows_of, root_rows}
use Rattle.ir_rows.specs.Types.{is_simple, is_complex, is_type, places_of, type_places, type_head_at, types_graph_rows, graph_row_list}

unfoldable pub computes : Unit {0}
unfolding name_at reference_texts value_row opaque_row lowered_field_row simple_row code_rows lowered_as lowered_row child_rows type_rows_of root_rows is_simple is_complex is_type places_of
    type_places type_head_at types_graph_rows graph_row_list
computes = tt
