-- One name that unfolds every definition of this crate, for examples by computation.
use Rattle.names.specs.Cases.{case_table, case_of, raised, lowered, upper_of, lower_of, first_lower, is_upper_char, is_lower_char, in_table}
use Rattle.names.specs.Answers.{written, placed}
use Rattle.names.specs.Names.{capital, normalize_type_name, starts_word, snake_from, xml_to_snake_case, code_to_pascal_case}
use Rattle.names.specs.Plain.{byte_capital, byte_normalize, byte_pascal, byte_starts, byte_snake_from, byte_snake}
use Rattle.names.specs.Scans.{cased, segments}

unfoldable pub computes : Unit {0}
unfolding case_table case_of raised lowered upper_of lower_of first_lower is_upper_char is_lower_char in_table written placed capital
    normalize_type_name starts_word snake_from xml_to_snake_case code_to_pascal_case byte_capital byte_normalize byte_pascal byte_starts byte_snake_from
    byte_snake cased segments
computes = tt
