-- Texts with characters of two bytes, by computation.
--     both          whether a sheet, and whether a graph, may hold the text
use Rattle.std.specs.Prelude.{◌≡◌, refl, [], ◌∷◌, ◌++◌, Bool, true, false, map}
use Rattle.text.specs.Text.{Text, bytes, is_text, is_graph_text}
use Rattle.text.specs.Characters.{characters}
use Rattle.text.specs.Unfold.{computes}

both : Text → Bool × Bool
both s = (is_text s, is_graph_text s)

-- é, ß, U+0080 and U+017F, the ends of the range, and é between letters
e-acute : both (195 ∷ 169 ∷ []) ≡ (true, true)
unfolding both computes
e-acute = refl

sharp-s : both (195 ∷ 159 ∷ []) ≡ (true, true)
unfolding both computes
sharp-s = refl

range-ends : both (194 ∷ 128 ∷ 197 ∷ 191 ∷ []) ≡ (true, true)
unfolding both computes
range-ends = refl

between-letters : both (bytes "Caf" ++ (195 ∷ 169 ∷ bytes "s")) ≡ (true, true)
unfolding both computes
between-letters = refl

-- "those of a character cut by an end": a lead alone, at the end, before a letter, before another lead; a tail alone, at the start, behind a letter
cut-characters :
    map both ((195 ∷ []) ∷ (97 ∷ 195 ∷ []) ∷ (195 ∷ 97 ∷ []) ∷ (195 ∷ 195 ∷ 169 ∷ []) ∷ (169 ∷ []) ∷ (169 ∷ 97 ∷ []) ∷ (195 ∷ 169 ∷ 169 ∷ []) ∷ [])
    ≡ (false, false) ∷ (false, false) ∷ (false, false) ∷ (false, false) ∷ (false, false) ∷ (false, false) ∷ (false, false) ∷ []
unfolding both computes
cut-characters = refl

-- C0 and C1, of which no character is spelled; C6 80 is U+0180; U+0301, a combining accent; a byte order mark; 255
other-bytes :
    map both ((192 ∷ 128 ∷ []) ∷ (193 ∷ 191 ∷ []) ∷ (198 ∷ 128 ∷ []) ∷ (101 ∷ 204 ∷ 129 ∷ []) ∷ (239 ∷ 187 ∷ 191 ∷ []) ∷ (255 ∷ []) ∷ [])
    ≡ (false, false) ∷ (false, false) ∷ (false, false) ∷ (false, false) ∷ (false, false) ∷ (false, false) ∷ []
unfolding both computes
other-bytes = refl

-- U+02BC, U+0307 and U+039C stand in graphs alone, and none of those beside them
graph-characters :
    map both ((202 ∷ 188 ∷ []) ∷ (204 ∷ 135 ∷ []) ∷ (206 ∷ 156 ∷ []) ∷ (202 ∷ 135 ∷ []) ∷ (204 ∷ 136 ∷ []) ∷ (206 ∷ 188 ∷ []) ∷ (202 ∷ []) ∷ [])
    ≡ (false, true) ∷ (false, true) ∷ (false, true) ∷ (false, false) ∷ (false, false) ∷ (false, false) ∷ (false, false) ∷ []
unfolding both computes
graph-characters = refl

-- a character is one element, a cut one byte by byte
in-characters : characters (97 ∷ 195 ∷ 169 ∷ 206 ∷ 156 ∷ 195 ∷ []) ≡ (97 ∷ []) ∷ (195 ∷ 169 ∷ []) ∷ (206 ∷ 156 ∷ []) ∷ (195 ∷ []) ∷ []
unfolding computes
in-characters = refl
