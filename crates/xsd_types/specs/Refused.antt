-- The simple types that lowering refuses: paper 01, "Returned numbers", 13, "`UnknownBase`". One definition over a schema's items and over the rows of a sheet.
--     is_enumeration, all_enums    "Facets all enumerations and not none: code enum"
--     is_none        there is no value
--     refused_base   a simple type that lowering refuses: no code enum, and its base is no built-in type; refused_item: the same of an item
--     only_codes     the facets that a list of rows begins with are enumerations
--     is_code_enum    "Facets all enumerations and not none", of the rows behind a head
--     refused_row    a row and the rows behind it are those of a simple type that lowering refuses
--     refused_place  the place of the first such row, 0 where there is none; the list's first row is at place p
use Rattle.std.specs.Prelude.{ℕ, ◌+◌, List, [], ◌∷◌, Bool, true, false, not, ◌&&◌, eqb, if◌then◌else◌}
use Rattle.std.proofs.Math.Option.{Option, some, none}
use Rattle.text.specs.Text.{every, between}
use Rattle.builtin.specs.Builtin.{map_builtin}
use Rattle.sheet.specs.Rows.{Row}
use Rattle.xsd_types.specs.Tags.{simple_type_tag, enumeration_tag, pattern_tag, fraction_digits_tag}
use Rattle.xsd_types.specs.Types.{Facet, SimpleType, Item}
use Rattle.xsd_types.specs.State.{is_empty}
use Rattle.xsd_types.specs.Back.{text1}

unfoldable pub is_enumeration : Facet → Bool
is_enumeration (Facet.enumeration v) = true
is_enumeration (Facet.pattern v) = false
is_enumeration (Facet.min_length n) = false
is_enumeration (Facet.max_length n) = false
is_enumeration (Facet.min_inclusive v) = false
is_enumeration (Facet.max_inclusive v) = false
is_enumeration (Facet.total_digits n) = false
is_enumeration (Facet.fraction_digits n) = false

-- "Facets all enumerations and not none: code enum"
unfoldable pub all_enums : List Facet → Bool
all_enums fs = not (is_empty fs) && every is_enumeration fs

unfoldable pub is_none : {A : Type 0} → Option A → Bool
is_none none = true
is_none (some x) = false

-- 001, `lower_newtype`: a base that is no built-in type is `UnknownBase`; a code enum's base is not looked at
unfoldable pub refused_base : SimpleType → Bool
refused_base t = not (all_enums t.facets) && is_none (map_builtin t.base)

unfoldable pub refused_item : Item → Bool
refused_item (Item.element e) = false
refused_item (Item.simple_type t) = refused_base t
refused_item (Item.complex_type t) = false

-- ---- by rows

unfoldable pub only_codes : List Row → Bool
only_codes [] = true
only_codes (r ∷ rs) = if eqb r.tag enumeration_tag then only_codes rs else not (between pattern_tag fraction_digits_tag r.tag)

unfoldable pub is_code_enum : List Row → Bool
is_code_enum [] = false
is_code_enum (r ∷ rs) = eqb r.tag enumeration_tag && only_codes rs

unfoldable pub refused_row : Row → List Row → Bool
refused_row r rs = eqb r.tag simple_type_tag && not (is_code_enum rs) && is_none (map_builtin (text1 r))

-- 13: "place is the row of the first such simple type"
unfoldable pub refused_place : ℕ → List Row → ℕ
refused_place p [] = 0
refused_place p (r ∷ rs) = if refused_row r rs then p else refused_place (p + 1) rs
