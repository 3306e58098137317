-- One name that unfolds every definition of this crate, for examples by computation.
use Rattle.text.specs.Trim.{is_white_space}
use Rattle.xml.specs.Classes.{is_char, is_letter, is_name_start, is_name, is_encoding, point_of, is_byte_of, is_pair_of, begins}
use Rattle.xml.specs.Steps.{starts_with, literal, many, one_then, spaces, space, name, leading_name, until, comment, target, instruction_end, instruction, section}
use Rattle.xml.specs.Grammar.{is_xml, digit_of, is_among}
use Rattle.xml.specs.Values.{is_number, is_entity, is_reference, starts_character, value_end, is_quote, value, char_data}
use Rattle.xml.specs.Prolog.{eq, quoted, version_number, encoding_name, yes_or_no, declared, optional, declaration, is_misc, misc_part, misc_from, misc, is_declaration, prolog}
use Rattle.xml.specs.Tape.{attribute_marks, event_marks, tape_marks}
use Rattle.xml.specs.Tags.{attribute, part_of, attributes_from, attributes, tag}
use Rattle.xml.specs.Root.{close, markup, piece, opened, turn, add_events, inside, root}
use Rattle.xml.specs.Document.{to_end, document_from, document, refused, tape_written, taken_of, tape_of}

-- the parts that give no event
unfoldable pub parts_compute : Unit {0}
unfolding is_char is_white_space is_letter is_name_start is_name is_encoding point_of is_byte_of is_pair_of begins starts_with literal many one_then
    spaces space name leading_name until comment is_xml target instruction_end
    instruction section digit_of is_number is_entity is_reference starts_character value_end is_quote value char_data eq quoted version_number encoding_name yes_or_no declared optional
    declaration is_misc misc_part misc_from misc is_declaration prolog
parts_compute = tt

unfoldable pub computes : Unit {0}
unfolding parts_compute attribute_marks event_marks tape_marks attribute part_of is_among attributes_from attributes tag close markup piece opened turn add_events inside root
    to_end document_from document refused tape_written taken_of tape_of
computes = tt
