-- What the code's short texts and letters stand for.
--     short_bytes   the bytes of a character, or of a form of one
--     form_bytes    those of a short text that may be there
--     case_of_letter    the entry of the table of cases that a letter, or none, is
use Rattle.std.specs.Prelude.{Option, Some, None, [], ◌∷◌}
use Rattle.text.specs.Text.{Text}
use Rattle.names.specs.Cases.{Case, Upper, Lower, Neither}
use Rattle.names.specs.declared.characters.Short.{Short}
use Rattle.names.specs.declared.cases.Letter.{Letter}

abbrev pub short_bytes : Short → Text
short_bytes (Short.One b) = b ∷ []
short_bytes (Short.Two b c) = b ∷ c ∷ []
short_bytes (Short.Three b c d) = b ∷ c ∷ d ∷ []

abbrev pub form_bytes : Option Short → Text
form_bytes None = []
form_bytes (Some s) = short_bytes s

abbrev pub case_of_letter : Option Letter → Case
case_of_letter None = Neither
case_of_letter (Some (Letter.Upper form)) = Upper (short_bytes form)
case_of_letter (Some (Letter.Lower form)) = Lower (short_bytes form)
