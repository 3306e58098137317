-- One name that unfolds every definition of this crate, for examples by computation.
use Rattle.xsd_types.specs.Back.{rows_in, add_row, grouped, text0, text1, facet_of, element_of, variant_of, attribute_of, content_of, item_of, items_of, last_group}
use Rattle.xsd_types.specs.Back.{empty_row, no_group, context_of, namespace_in, behind_namespace, state_of_rows, bare_state_of}
use Rattle.xsd_types.specs.Choice.{paper_form, paper_nesting, no_numbers, paper_good, chosen, sheet_chosen}
use Rattle.xsd_types.specs.Clear.{clear}
use Rattle.xsd_types.specs.Convert.{convertible, convert}
use Rattle.xsd_types.specs.Count.{refused_types, refused_rows, count_in, with_count, bare, sheet_of, state_of, good}
use Rattle.xsd_types.specs.Good.{used_pairs, row_form, is_head, is_child, may_follow, head_after, in_order, last_head, row0_form, ten_form, rows_form, names_form, names_test}
use Rattle.xsd_types.specs.Good.{limits, root_test, open_tags_test, nesting_zero, nesting_test, context_test, extension_test, head_of, events_test, bare_good}
use Rattle.xsd_types.specs.Places.{row_at, rows_from}
use Rattle.xsd_types.specs.Refused.{is_enumeration, all_enums, is_none, refused_base, refused_item, only_codes, is_code_enum, refused_row, refused_place}
use Rattle.xsd_types.specs.Rows.{namespace_a, namespace_row, facet_row, occurs_row, element_row, variant_row, attribute_row, simple_type_rows, complex_type_rows, item_rows}
use Rattle.xsd_types.specs.Rows.{items_rows, context_rows, rows_of, context_number, nesting, content_flag, extension_flag, rows_used, names_used, row0}
use Rattle.xsd_types.specs.Sheet.{state_fits, bare_sheet_of}
use Rattle.xsd_types.specs.State.{first_state, element_ok, facet_ok, max_occurs_ok, sequence_element_ok, choice_variant_ok, attribute_ok, namespace_ok, content_ok, started}
use Rattle.xsd_types.specs.State.{finish, item_ok, schema_ok, schema_nesting_ok, context_ok, is_no_context, is_empty, root_ok, counters_ok, event_number_ok, item_passes}
use Rattle.xsd_types.specs.State.{open_passes, heads_pass, events_ok, proper}
use Rattle.xsd_types.specs.Unnumbered.{cleared_row, unnumbered_item, unnumbered_head, unnumbered_simple, unnumbered_complex, unnumbered_context, unnumbered_schema, unnumbered_reader, unnumbered}
use Rattle.xsd_types.specs.Types.{elements, simple_types, complex_types}

unfoldable pub computes : Unit {0}
unfolding rows_in add_row grouped text0 text1 facet_of element_of variant_of attribute_of content_of item_of items_of last_group empty_row no_group context_of namespace_in
    behind_namespace state_of_rows bare_state_of paper_form paper_nesting no_numbers paper_good chosen sheet_chosen clear used_pairs row_form is_head is_child may_follow head_after
    in_order last_head row0_form ten_form rows_form names_form names_test limits root_test open_tags_test nesting_zero nesting_test context_test extension_test head_of events_test
    bare_good namespace_a namespace_row facet_row occurs_row element_row variant_row attribute_row simple_type_rows complex_type_rows item_rows items_rows context_rows rows_of
    context_number nesting content_flag extension_flag rows_used names_used row0 state_fits bare_sheet_of first_state element_ok facet_ok max_occurs_ok sequence_element_ok
    choice_variant_ok attribute_ok namespace_ok content_ok started finish item_ok schema_ok schema_nesting_ok context_ok is_no_context is_empty root_ok counters_ok event_number_ok
    item_passes open_passes heads_pass events_ok proper elements simple_types complex_types cleared_row unnumbered_item unnumbered_head unnumbered_simple unnumbered_complex unnumbered_context
    unnumbered_schema unnumbered_reader unnumbered row_at rows_from is_enumeration all_enums is_none refused_base refused_item only_codes is_code_enum refused_row refused_place
    refused_types refused_rows count_in with_count bare sheet_of state_of good convertible convert
computes = tt
