-- The texts of a graph's row, from the first and second text of a schema's row.
--     text_by_spelling   the bytes of a text in its spelling
--     is_nothing         there is no text
--     spelled_texts      the text, or none
--     recipe_row         the row that a recipe gives
--     orderly           the used texts are the first ones
use Rattle.std.specs.Prelude.{Option, Some, None, List, [], ◌∷◌, ◌++◌, Bool, true, false, not, ◌&&◌, ◌||◌, if◌then◌else◌}
use Rattle.text.specs.Text.{Text}
use Rattle.names.specs.Names.{normalize_type_name, xml_to_snake_case, code_to_pascal_case}
use Rattle.sheet.specs.Rows.{Row, row}
use Rattle.ir_append.specs.declared.Spelling.{Spelling}
use Rattle.ir_append.specs.declared.Recipe.{Recipe}

abbrev pub text_by_spelling : Option Spelling → Text → Text → Text
text_by_spelling None t u = []
text_by_spelling (Some Spelling.First) t u = t
text_by_spelling (Some Spelling.FirstNormalized) t u = normalize_type_name t
text_by_spelling (Some Spelling.FirstSnake) t u = xml_to_snake_case t
text_by_spelling (Some Spelling.FirstPascal) t u = code_to_pascal_case t
text_by_spelling (Some Spelling.Second) t u = u
text_by_spelling (Some Spelling.SecondNormalized) t u = normalize_type_name u

abbrev pub is_nothing : Option Spelling → Bool
is_nothing None = true
is_nothing (Some how) = false

unfoldable pub spelled_texts : Option Spelling → Text → Text → List Text
spelled_texts k t u = if is_nothing k then [] else text_by_spelling k t u ∷ []

unfoldable pub recipe_row : Recipe → Text → Text → Row
recipe_row p t u =
    row p.tag (spelled_texts p.first t u ++ (spelled_texts p.second t u ++ spelled_texts p.third t u)) p.a p.b p.c

unfoldable pub orderly : Recipe → Bool
orderly p = (not (is_nothing p.first) || is_nothing p.second) && (not (is_nothing p.second) || is_nothing p.third)
