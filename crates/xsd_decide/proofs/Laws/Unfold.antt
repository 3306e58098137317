-- One name that unfolds what the contracts of this crate say: what each function decides is then found by cases. No contract cites it.
use Rattle.text.specs.Text.{bytes, is}
use Rattle.sheet.specs.Rows.{bit, row}
use Rattle.xsd_types.specs.Rows.{attribute_row, facet_row, occurs_row, variant_row}
use Rattle.xsd_parser.specs.Words.{facet_word, same_word, word_number}
use Rattle.xsd_parser.specs.Seen.{tag_is}
use Rattle.xsd_parser.specs.Handlers.{facet_by_word, facet_value, is_required, is_unbounded, on_facet, on_parsed, parse_max_occurs, parse_min_occurs, require_name, ◌and_then◌}
use Rattle.tape.specs.Lookup.{seen_at, value_of}
use Rattle.xsd_actions.specs.Decided.{any_content, attribute_inside, base_set, content_start, decided_close, decided_empty, decided_start, direct_child, element_inside}
use Rattle.xsd_actions.specs.Decided.{empty_in_complex_type, empty_in_simple_type, extended, facet_added, named_child, occurs_added, root_found, start_at_two, start_in_complex_type, start_in_schema, start_in_simple_type, top_element, typed}
use Rattle.xsd_actions.specs.Answers.{decision, new_row}
use Rattle.xsd_decide.specs.Reads.{both_values, max_answer, typed_values}
use Rattle.xsd_decide.specs.Rows.{typed_row}
use Rattle.xsd_decide.specs.Facets.{digits_added, facet_read, length_added, text_added}
use Rattle.xsd_decide.specs.Schema.{empty_in_schema}

unfoldable pub decides : Unit {0}
unfolding bytes is bit row attribute_row facet_row occurs_row variant_row facet_word same_word word_number tag_is facet_by_word facet_value is_required is_unbounded on_facet
    on_parsed parse_max_occurs parse_min_occurs require_name ◌and_then◌ seen_at value_of any_content attribute_inside base_set content_start decided_close decided_empty
    decided_start direct_child element_inside empty_in_complex_type empty_in_simple_type extended facet_added named_child occurs_added root_found start_at_two
    start_in_complex_type start_in_schema start_in_simple_type top_element typed decision new_row both_values max_answer typed_values typed_row digits_added
    facet_read length_added text_added empty_in_schema
decides = tt
