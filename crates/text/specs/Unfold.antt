-- One name that unfolds every definition of this crate, for examples by computation.
use Rattle.text.specs.Text.{bytes, every, is_plain_byte, is_plain, between, is_tail, is_pair, is_graph_pair, text_by, is_text, is_graph_text}
use Rattle.text.specs.Text.{lead_after, upper_byte, lower_byte, contains, in_front, split, join, first, same, is, after_last, local_name}
use Rattle.text.specs.Characters.{is_lead, characters, is_byte}
use Rattle.text.specs.Trim.{is_white_space, trim_start, trim_end, trimmed, is_solid}

unfoldable pub computes : Unit {0}
unfolding bytes every is_plain_byte is_plain between is_tail is_pair is_graph_pair text_by is_text is_graph_text lead_after upper_byte lower_byte contains
    in_front split join first same is after_last local_name is_lead characters is_byte is_white_space trim_start trim_end trimmed is_solid
computes = tt
