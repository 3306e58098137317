-- Which rows lowering makes by a recipe, and what the recipe has to give. Paper 01, "Graph sheet", Tags.
--     has_recipe         the row of the tag has one: all but the counts' rows, the open type's, and an enumeration outside a code enum
--     refers            the row's second text gives a reference
--     reference_spelling how the text of a reference is spelled
--     namespace_spelling how the namespace of an opaque type is spelled
--     texts_recipe       a recipe with up to two texts, a and c
--     child_recipe       a child's recipe: its xml name, its Rust name and its reference
--     as_cardinality    the code's cardinality as the definitions' one
--     Lowers            the recipe gives what lowering makes of a row
--     IsCount           the tag of a facet that is a count
--     ten_rows           what lowering makes of a row of numbers, its texts read from the names
use Rattle.std.specs.Prelude.{ℕ, Option, Some, None, ◌≡◌, ◌⊎◌, List, [], ◌∷◌, Bool, true, not, ◌&&◌, ◌||◌, eqb, if◌then◌else◌}
use Rattle.text.specs.Text.{Text, between}
use Rattle.builtin.specs.Builtin.{map_builtin, reference}
use Rattle.sheet.specs.Rows.{Row, text_at}
use Rattle.xsd_types.specs.Tags.{namespace_tag, simple_type_tag, enumeration_tag, min_length_tag, max_length_tag, total_digits_tag}
use Rattle.xsd_types.specs.Tags.{fraction_digits_tag, simple_content_tag, no_content_tag, bound_element_tag, attribute_tag}
use Rattle.rows.specs.declared.ten.Ten.{Ten}
use Rattle.ir_types.specs.Types.{Cardinality}
use Rattle.ir_rows.specs.Lowered.{lowered_as}
use Rattle.ir_append.specs.declared.Spelling.{Spelling}
use Rattle.ir_append.specs.declared.Recipe.{Recipe}
use Rattle.ir_append.specs.Spelled.{recipe_row, orderly}
use Rattle.ir_row.specs.declared.Cardinality.{Cardinality as Named}

-- "else newtype, enumerations dropped"; "16 no content yet (name; only while open)"
unfoldable pub has_recipe : Bool → ℕ → Bool
has_recipe code_enum tag =
    between namespace_tag attribute_tag tag && not (between min_length_tag max_length_tag tag) && not (between total_digits_tag fraction_digits_tag tag)
    && not (eqb tag no_content_tag) && (not (eqb tag enumeration_tag) || code_enum)

unfoldable pub refers : ℕ → Bool
refers tag = eqb tag simple_type_tag || eqb tag simple_content_tag || between bound_element_tag attribute_tag tag

-- "0 named (the pair, normalised), 1 String .. (pair unused)"
unfoldable pub reference_spelling : ℕ → Option Spelling
reference_spelling n = if eqb n 0 then Some Spelling.SecondNormalized else None

-- "a and namespace as in 15": "a is 1 and the namespace follows if present"
unfoldable pub namespace_spelling : ℕ → Option Spelling
namespace_spelling a = if eqb a 1 then Some Spelling.Second else None

abbrev pub texts_recipe : ℕ → ℕ → ℕ → Spelling → Option Spelling → Recipe
texts_recipe tag a c first second =
    record { tag = tag; a = a; b = 0; c = c; first = Some first; second = second; third = None }

abbrev pub child_recipe : ℕ → ℕ → ℕ → ℕ → Spelling → Recipe
child_recipe tag n b c second =
    record { tag = tag; a = n; b = b; c = c; first = Some Spelling.First; second = Some second; third = reference_spelling n }

abbrev pub as_cardinality : Named → Cardinality
as_cardinality Named.Required = Cardinality.required
as_cardinality Named.Optional = Cardinality.optional
as_cardinality Named.Vec = Cardinality.vec
as_cardinality (Named.Bounded n) = Cardinality.bounded_vec n

pub record Lowers (code_enum : Bool) (tag a b c n : ℕ) (r : Recipe) : Type 0 where
  pub in_order : orderly r ≡ true
  pub lowers : (t u : Text) → has_recipe code_enum tag ≡ true → (refers tag ≡ true → n ≡ reference (map_builtin u)) → lowered_as code_enum tag a b c t u ≡ recipe_row r t u ∷ []

abbrev pub IsCount : ℕ → Type 0
IsCount tag = (tag ≡ min_length_tag) ⊎ ((tag ≡ max_length_tag) ⊎ ((tag ≡ total_digits_tag) ⊎ (tag ≡ fraction_digits_tag)))

unfoldable pub ten_rows : Bool → List ℕ → Ten → List Row
ten_rows code_enum names t =
    lowered_as code_enum t.tag t.a t.b t.c (text_at names t.at0 t.len0) (text_at names t.at1 t.len1)
