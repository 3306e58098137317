-- One name that unfolds every definition of this crate, for examples by computation.
use Rattle.ir_lower.specs.Call.{zeros, unchanged, cleared, graph_written, lower_finished, lower_state, lowering}
use Rattle.ir_lower.specs.Finished.{simple_name, complex_name, finished_names, references_of, type_names_in}
use Rattle.ir_lower.specs.Left.{changes_nothing, clears_graph, clears_scratch, no_graph}
use Rattle.ir_lower.specs.Lower.{resolved, resolve_type_ref, codes, constraints, lower_newtype, lower_simple_type, lower_cardinality, lower_field, lower_variant}
use Rattle.ir_lower.specs.Lower.{lower_attribute, lower_content, lower_complex_type, any_unknown, with_definition, simple_definitions, finished_definitions, root_of_element}
use Rattle.ir_lower.specs.Lower.{graph_of, lower, unknown_row}
use Rattle.ir_lower.specs.Repeated.{simple_head, complex_head, heads_of, heads, type_head_names, first_repeated, repeated_row}

unfoldable pub computes : Unit {0}
unfolding zeros unchanged cleared graph_written lower_finished lower_state lowering simple_name complex_name finished_names references_of type_names_in changes_nothing clears_graph
    clears_scratch no_graph resolved resolve_type_ref codes constraints lower_newtype lower_simple_type lower_cardinality lower_field lower_variant lower_attribute lower_content
    lower_complex_type any_unknown with_definition simple_definitions finished_definitions root_of_element graph_of lower unknown_row simple_head complex_head heads_of heads
    type_head_names first_repeated repeated_row
computes = tt
