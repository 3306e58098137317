-- What the check is to try by itself: definitions to open, and laws to apply. Functions whose goals these close have no answers.
use Rattle.text.proofs.Laws.Table.{cut_inside}
use Rattle.xsd_parser.specs.Words.{found}
use Rattle.xsd_parser.specs.Event.{or_empty}
use Rattle.xsd_parser.specs.Tape.{pair_count}
use Rattle.xsd_parser.proofs.Laws.EventTexts.{ascii-whole}
use Rattle.tape.specs.Pairs.{pair_at}
use Rattle.tape.specs.Marks.{marks_of_tag}
use Rattle.tape.specs.Lookup.{value_of, value_at, value_under, kept_first}
use Rattle.tape.proofs.Laws.Pairs.{pair-text, pair-past}
use Rattle.tape.proofs.Laws.Words.{key-place}
use Rattle.tape.proofs.Laws.Tests.{inside-early, inside_past, inside_on, inside-end}
use Rattle.tape.proofs.Laws.Form.{form-many, form-close, form-tag, form-none, kind-least, kind-most, kind-tag}

unfoldable pub opened : Unit {0}
unfolding found or_empty pair_count pair_at marks_of_tag value_of value_at value_under kept_first
opened = tt

pub ruleset laws = (
  cut_inside,
  pair-text,
  pair-past,
  key-place,
  ascii-whole,
  inside-early,
  inside_past,
  inside_on,
  inside-end,
  form-many,
  form-close,
  form-tag,
  form-none,
  kind-least,
  kind-most,
  kind-tag,
)
