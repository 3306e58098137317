-- One name that unfolds every definition of this crate, for examples by computation.
use Rattle.sheet.specs.Form.{is_flag, pair_form, row_covers, end_of, covers, covered, texts_counted, row0_of, tens_of, used_parts, zeros_behind, texts_pass}
use Rattle.sheet.specs.Lengths.{sheet_lengths, tape_lengths, lengths_of, good_lengths, fits}
use Rattle.sheet.specs.Rows.{ten, tens, numbers, row, bit, pairs, pack_row, pack, names_of, text_at, unpack_row, filled, all_zero, sheet_of_rows}

unfoldable pub computes : Unit {0}
unfolding is_flag pair_form row_covers end_of covers covered texts_counted row0_of tens_of used_parts zeros_behind texts_pass sheet_lengths tape_lengths lengths_of good_lengths fits ten tens numbers
    row bit pairs pack_row pack names_of text_at unpack_row filled all_zero sheet_of_rows
computes = tt
