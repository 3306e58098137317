-- Characters by their code points, in UTF-8. Proofs alone cite it, and the claim that a text is one of these characters.
--     utf8          the bytes of a code point below U+0800
--     is_point, is_graph_point    the code points of a text's characters, and of a graph's text
--     SpelledBy     the bytes are those of code points that pass the test
use Rattle.std.specs.Prelude.{ℕ, ◌+◌, ◌/◌, ◌%◌, ◌≡◌, List, [], ◌∷◌, map, Bool, true, ◌||◌, eqb, ltb, if◌then◌else◌}
use Rattle.text.specs.Text.{Text, every, join}

-- RFC 3629, section 3: up to U+007F one byte, up to U+07FF a byte 110xxxxx and a byte 10xxxxxx
unfoldable pub utf8 : ℕ → Text
utf8 c = if ltb c 128 then c ∷ [] else (192 + c / 64) ∷ (128 + c % 64) ∷ []

-- "Accept UTF-8 for code points U+0080 to U+017F", beside the bytes below 128
unfoldable pub is_point : ℕ → Bool
is_point c = ltb c 384

-- "in graphs also U+02BC, U+0307 and U+039C"
unfoldable pub is_graph_point : ℕ → Bool
is_graph_point c = is_point c || eqb c 700 || eqb c 775 || eqb c 924

abbrev pub SpelledBy : (ℕ → Bool) → Text → Type 0
SpelledBy point s = (cs : List ℕ) × (every point cs ≡ true) × (s ≡ join (map utf8 cs))
