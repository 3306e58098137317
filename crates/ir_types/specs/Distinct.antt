-- Names in a list of definitions, for order 4.
--     type_names     the definitions' names
--     among         the text is one of the list
--     distinct_texts, distinct    no text, no definition's name, stands twice
use Rattle.std.specs.Prelude.{List, [], ◌∷◌, map, Bool, true, false, not, ◌&&◌, ◌||◌}
use Rattle.text.specs.Text.{Text, same}
use Rattle.ir_types.specs.Types.{TypeDef, name_of}

unfoldable pub type_names : List TypeDef → List Text
type_names ds = map name_of ds

unfoldable pub among : Text → List Text → Bool
among t [] = false
among t (u ∷ us) = same u t || among t us

unfoldable pub distinct_texts : List Text → Bool
distinct_texts [] = true
distinct_texts (t ∷ ts) = not (among t ts) && distinct_texts ts

unfoldable pub distinct : List TypeDef → Bool
distinct ds = distinct_texts (type_names ds)
