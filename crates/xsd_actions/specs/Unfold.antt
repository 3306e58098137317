-- One name that unfolds every definition of this crate, for examples by computation.
use Rattle.xsd_actions.specs.Actions.{mode_of, content_tag, head_tag, reader_rows, context_after, root_after, flag_after, opens_type, raises, tag_mode, close_mode, mode_after}
use Rattle.xsd_actions.specs.Actions.{namespace_after, first_text, head_with, base_with, open_simple_row, open_complex_row, rows_after, Fitting}
use Rattle.xsd_actions.specs.Decided.{typed, named_child, top_element, root_found, base_set, occurs_added, element_inside, attribute_inside, direct_child, start_in_schema}
use Rattle.xsd_actions.specs.Decided.{start_in_simple_type, content_start, extended, start_at_two, start_in_complex_type, decided_start, facet_added, empty_in_simple_type}
use Rattle.xsd_actions.specs.Decided.{any_content, empty_in_complex_type, decided_empty, decided_close, decided}
use Rattle.xsd_actions.specs.Answers.{new_row, decision}

unfoldable pub computes : Unit {0}
unfolding mode_of content_tag head_tag reader_rows context_after root_after flag_after opens_type raises tag_mode close_mode mode_after namespace_after first_text head_with base_with
    open_simple_row open_complex_row rows_after Fitting typed named_child top_element root_found base_set occurs_added element_inside attribute_inside direct_child start_in_schema
    start_in_simple_type content_start extended start_at_two start_in_complex_type decided_start facet_added empty_in_simple_type any_content empty_in_complex_type decided_empty
    decided_close decided new_row decision
computes = tt
