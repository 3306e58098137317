-- One name that unfolds every definition of this crate, for examples by computation.
use Rattle.xml.specs.Written.{is_name_text, is_value, quote_of, written_attribute_ok, new_keys, written_attributes, tag_end, written_tag}
use Rattle.xsd_written.specs.Decimal.{decimal_up, decimal}
use Rattle.xsd_written.specs.Markup.{markup_text, markups_text}
use Rattle.xsd_written.specs.Schema.{attr, prefixed, prefixed_tag, around, valued, facet_markup, element_markup, variant_markup, attribute_markup, content_markup, item_markup}
use Rattle.xsd_written.specs.Schema.{items_markup, schema_markup, schema_text}
use Rattle.xsd_written.specs.Call.{holds, unheld_from, first_unheld, text_unchanged, zeroed, text_written, write_state, write_back}
use Rattle.xsd_written.specs.ByRows.{attribute_text, empty_text, named_text, complex_text, any_text, head_markup, facet_word_text, facet_value_text, max_occurs_text, occurs_text}
use Rattle.xsd_written.specs.ByRows.{use_text, child_text, close_text, rows_text, schema_by_rows}

unfoldable pub computes : Unit {0}
unfolding is_name_text is_value quote_of written_attribute_ok new_keys written_attributes tag_end written_tag decimal_up decimal markup_text markups_text attr prefixed prefixed_tag around valued
    facet_markup element_markup variant_markup attribute_markup content_markup item_markup items_markup schema_markup schema_text holds unheld_from first_unheld text_unchanged zeroed
    text_written write_state write_back attribute_text empty_text named_text complex_text any_text head_markup facet_word_text facet_value_text max_occurs_text occurs_text use_text child_text
    close_text rows_text schema_by_rows
computes = tt
