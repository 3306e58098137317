-- One name that unfolds every definition of this crate, for examples by computation.
use Rattle.ir_types.specs.Distinct.{type_names, among, distinct_texts, distinct}
use Rattle.ir_types.specs.Form.{used_pairs, is_type_tag, form_a, form_b, form_c, ten_form, is_child, may_follow, head_after, in_order, count, tags_of, row0_form, rows_form, names_form, graph_form}
use Rattle.ir_types.specs.Label.{no_label, newline, words_of, good_words, word_at, row_ten, has_reference, reference_at, reference_length, named_label, word_label, row_label, label}
use Rattle.ir_types.specs.Last.{insert, insert_all}
use Rattle.ir_types.specs.Ok.{ref_ok, cardinality_ok, field_ok, variant_ok, constraint_ok, code_ok, attr_ok, type_ok, root_ok, graph_ok, row_form, is_small, row_small, row_ok}
use Rattle.ir_types.specs.Refuses.{has_tag, row_refuses, refuses}
use Rattle.ir_types.specs.Unnumbered.{unnumbered_root, unnumbered_type, unnumbered_graph}
use Rattle.ir_types.specs.Rows.{ref_a, ref_text, cardinality_b, cardinality_c, field_row, variant_row, constraint_row, code_row}
use Rattle.ir_types.specs.Rows.{attr_row, type_rows, types_rows, root_row, rows_of, rows_used, names_used, row0}
use Rattle.ir_types.specs.Sheet.{graph_fits, graph_sheet}
use Rattle.ir_types.specs.Types.{name_of}

unfoldable pub computes : Unit {0}
unfolding type_names among distinct_texts distinct insert insert_all used_pairs is_type_tag form_a form_b form_c ten_form is_child may_follow head_after in_order count tags_of row0_form
    rows_form names_form graph_form no_label newline words_of good_words word_at row_ten has_reference reference_at reference_length named_label word_label row_label label ref_ok
    cardinality_ok field_ok variant_ok constraint_ok code_ok attr_ok type_ok root_ok graph_ok row_form is_small row_small row_ok has_tag row_refuses refuses ref_a ref_text cardinality_b
    cardinality_c field_row variant_row constraint_row code_row attr_row type_rows types_rows root_row rows_of rows_used names_used row0 graph_fits graph_sheet name_of unnumbered_root
    unnumbered_type unnumbered_graph
computes = tt
