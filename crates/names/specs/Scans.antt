-- A conversion as one scan over characters. The laws in proofs/ tie it to the definition that a conversion's contract cites.
--     cased         a character of a segment: the first one goes up; those behind it go down or stay
--     segments      the characters' segments, put together; `up` says whether the next one is the first of its segment
use Rattle.std.specs.Prelude.{ℕ, List, [], ◌∷◌, ◌++◌, Bool, true, false, if◌then◌else◌}
use Rattle.text.specs.Text.{Text}
use Rattle.text.specs.Characters.{is_byte}
use Rattle.names.specs.Cases.{upper_of, lower_of}

unfoldable pub cased : Bool → Bool → Text → Text
cased up lowers c = if up then upper_of c else (if lowers then lower_of c else c)

unfoldable pub segments : ℕ → Bool → Bool → List Text → Text
segments separator lowers up [] = []
segments separator lowers up (c ∷ cs) =
    if is_byte separator c
    then segments separator lowers true cs
    else cased up lowers c ++ segments separator lowers false cs
