-- One name that unfolds every definition of this crate, for examples by computation.
use Rattle.text.specs.Text.{bytes, contains, between}
use Rattle.xml.specs.Classes.{is_char}
use Rattle.pattern.specs.Grammar.{char_but, is_normal, is_xml_char, is_in_class, is_mark, is_single, is_multi}
use Rattle.pattern.specs.Scan.{is_escaped, leave, is_single_char, fresh, class_step, pattern_step, final, scan}
use Rattle.pattern.specs.Call.{is_aside_pair, aside_from, aside_pairs, count_byte, is_aside}

unfoldable pub computes : Unit {0}
unfolding bytes contains between is_char char_but is_normal is_xml_char is_in_class is_mark is_single is_multi is_escaped leave is_single_char fresh class_step pattern_step final scan is_aside_pair
    aside_from aside_pairs count_byte is_aside
computes = tt
