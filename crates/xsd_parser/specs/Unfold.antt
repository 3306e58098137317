-- One name that unfolds every definition of this crate, for examples by computation.
use Rattle.xsd_parser.specs.Children.{depth_after, named_head, element_head, child_head, head_at_depth, children_from, direct_children}
use Rattle.xsd_parser.specs.Children.{item_head, open_head, child_heads, starts_no_other, only_types_from, only_types}
use Rattle.xsd_parser.specs.Words.{found, known_words, word_of, word_number, same_word, facet_word}
use Rattle.xsd_parser.specs.Seen.{seen, tag_is}
use Rattle.xsd_parser.specs.Event.{lookup, attr_value, event_name, or_empty}
use Rattle.xsd_parser.specs.EventText.{attr_is_text, tag_ok, event_ok, judged_ok}
use Rattle.xsd_parser.specs.Handlers.{◌and_then◌, on_parsed, in_context, with_item, found_root, kept_element, on_top_level_element, require_name, parse_min_occurs}
use Rattle.xsd_parser.specs.Handlers.{is_unbounded, parse_max_occurs, with_base, with_facet, with_content, sequence_element, choice_variant, on_element_inside_complex}
use Rattle.xsd_parser.specs.Handlers.{is_required, attribute_added, on_attribute_inside_complex, on_extension, open_simple_type, open_complex_type, below_schema}
use Rattle.xsd_parser.specs.Handlers.{on_direct_child, on_start_in_schema, raised_simple, on_start_in_simple_type, raised_complex, content_started, content_at_two}
use Rattle.xsd_parser.specs.Handlers.{on_start_in_complex_type, on_start, facet_value, facet_by_word, on_facet, on_empty_in_simple_type, on_empty_in_complex_type, on_empty}
use Rattle.xsd_parser.specs.Handlers.{close_simple_type, close_complex_type, close_in_schema, on_end}
use Rattle.xsd_parser.specs.Numbered.{step_by, read_records_by, read_state_by, unknown_number, makes_head, item_number, open_number, numbered_heads, more_heads, named_by, given_by, heads_given, gave}
use Rattle.xsd_parser.specs.Pieces.{onward, read_pieces}
use Rattle.xsd_parser.specs.Read.{read_records, read_state, refused_at, sheet_of_reading, read}
use Rattle.xsd_parser.specs.Step.{handled, closed, tags_after, counted, room_for, step}
use Rattle.xsd_parser.specs.Tape.{pairs_of, pair_text, all_inside, all_ascii, attrs_of, tag_of, pair_count, event_of, form_test, tag_record, record1, records_from, records}
use Rattle.xsd_parser.specs.Whole.{all_events, cut_short, whole_from, whole_records}

unfoldable pub computes : Unit {0}
unfolding depth_after named_head element_head child_head head_at_depth children_from direct_children item_head open_head child_heads starts_no_other only_types_from only_types found known_words
    word_of word_number same_word facet_word seen tag_is lookup attr_value event_name or_empty attr_is_text tag_ok event_ok judged_ok ◌and_then◌ on_parsed in_context with_item found_root
    kept_element on_top_level_element require_name parse_min_occurs is_unbounded parse_max_occurs with_base with_facet with_content sequence_element choice_variant
    on_element_inside_complex is_required attribute_added on_attribute_inside_complex on_extension open_simple_type open_complex_type below_schema on_direct_child on_start_in_schema
    raised_simple on_start_in_simple_type raised_complex content_started content_at_two on_start_in_complex_type on_start facet_value facet_by_word on_facet on_empty_in_simple_type
    on_empty_in_complex_type on_empty close_simple_type close_complex_type close_in_schema on_end onward read_pieces read_records read_state refused_at sheet_of_reading read handled
    closed tags_after counted room_for step pairs_of pair_text all_inside all_ascii attrs_of tag_of pair_count event_of form_test tag_record record1 records_from records all_events
    cut_short whole_from whole_records step_by read_records_by read_state_by unknown_number makes_head item_number open_number numbered_heads
    more_heads named_by given_by heads_given gave
computes = tt
