-- The three name conversions of 001 (lower.rs), clause by clause, over characters.
--     capital rest      a segment's characters put together: the first one in its upper form, each behind it under `rest`
--     normalize_type_name    a type name as a Rust name: without underscores, each segment's first character in the upper form
--     starts_word        an underscore stands before c, between the characters prev and next; no character stands for none
--     snake_from prev cs the snake form of the characters cs where prev is the one before them, none where there is none
--     xml_to_snake_case    an element's or attribute's name as a field's name
--     code_to_pascal_case  an enumeration's value as a variant's name
use Rattle.std.specs.Prelude.{List, [], ◌∷◌, ◌++◌, map, Bool, ◌&&◌, ◌||◌, get_or, if◌then◌else◌}
use Prim.Native.Char.{code}
use Rattle.text.specs.Text.{Text, contains, split, join}
use Rattle.text.specs.Characters.{characters}
use Rattle.names.specs.Cases.{upper_of, lower_of, first_lower, is_upper_char, is_lower_char}

unfoldable pub capital : (Text → Text) → List Text → Text
capital rest [] = []
capital rest (c ∷ cs) = upper_of c ++ join (map rest cs)

-- 001: if name.contains('_') { name.split('_').map(..).collect() } else { name.to_owned() }
unfoldable pub normalize_type_name : Text → Text
normalize_type_name name =
    if contains (code "_") name then join (map (λ t. capital (λ c. c) (characters t)) (split (code "_") name)) else name

-- 001: if i > 0 && (prev_lower || (prev_upper && next_lower)) { out.push('_') }, for an upper letter c
unfoldable pub starts_word : Text → Text → Text → Bool
starts_word prev c next = is_upper_char c && (is_lower_char prev || (is_upper_char prev && is_lower_char next))

-- 001: out.push(c.to_lowercase().next().unwrap_or(c)), for an upper letter c; any other character is its own lower form
unfoldable pub snake_from : Text → List Text → Text
snake_from prev [] = []
snake_from prev (c ∷ cs) =
    if starts_word prev c (get_or cs 0 [])
    then code "_" ∷ (first_lower c ++ snake_from c cs)
    else first_lower c ++ snake_from c cs

unfoldable pub xml_to_snake_case : Text → Text
xml_to_snake_case name = snake_from [] (characters name)

-- 001: value.split('-').map(first character up, the rest down).collect()
unfoldable pub code_to_pascal_case : Text → Text
code_to_pascal_case value = join (map (λ t. capital lower_of (characters t)) (split (code "-") value))
