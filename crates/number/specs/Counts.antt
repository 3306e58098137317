-- What the counts of facets say in the terms of Number: the value, or the paper's refusal 10.
--     of_characters  the answer for a length
--     of_digits      the answer for a digit facet
use Rattle.std.specs.Prelude.{Option, Some, None}
use Rattle.number.specs.Number.{Parsed, parsed, refused}
use Rattle.number.specs.declared.CharacterCount.{CharacterCount}
use Rattle.number.specs.declared.DigitCount.{DigitCount}

abbrev pub of_characters : Option CharacterCount → Parsed
of_characters (Some n) = parsed n.0
of_characters None = refused 10

abbrev pub of_digits : Option DigitCount → Parsed
of_digits (Some n) = parsed n.0
of_digits None = refused 10
