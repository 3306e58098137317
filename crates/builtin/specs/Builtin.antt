-- The built-in names: 001 (lower.rs), `map_builtin`, and 003 (ir/types.rs), `RustType`. XML Schema Part 2, section 3, has all 38.
--     RustType      the type that a built-in name becomes
--     primitives, derived    the 17 and the 21 names of the standard's own two lists, each with its type
--     builtins      the 38 names
--     first_match    the type beside the first name of the list that is the word
--     map_builtin    the type of a name, after its last colon; none where it is no built-in name
--     reference     paper 01's number of a type reference: 0 named, 1 String, 2 Bool, 3 Decimal, 4 Date, 5 DateTime
use Rattle.std.specs.Prelude.{ℕ, List, [], ◌∷◌, ◌++◌, if◌then◌else◌}
use Prim.Native.String.{String}
use Rattle.std.proofs.Math.Option.{Option, some, none}
use Rattle.text.specs.Text.{Text, is, local_name}

pub data RustType : Type 0 where
  string bool decimal date date_time : RustType

-- order 9: "List them once each in the sequence of that text, primitive types first and derived ones after, names it lacks last": it lacks none.
-- Its section 3.2 has the primitive types
abbrev pub primitives : List (String × RustType)
primitives =
    ("string", string) ∷ ("boolean", bool) ∷ ("decimal", decimal) ∷ ("float", decimal) ∷ ("double", decimal)
    ∷ ("duration", string) ∷ ("dateTime", date_time) ∷ ("time", string) ∷ ("date", date) ∷ ("gYearMonth", string)
    ∷ ("gYear", string) ∷ ("gMonthDay", string) ∷ ("gDay", string) ∷ ("gMonth", string) ∷ ("hexBinary", string)
    ∷ ("base64Binary", string) ∷ ("anyURI", string)
    ∷ []

-- and section 3.3 the derived ones
abbrev pub derived : List (String × RustType)
derived =
    ("normalizedString", string) ∷ ("token", string) ∷ ("language", string) ∷ ("NMTOKEN", string) ∷ ("Name", string)
    ∷ ("NCName", string) ∷ ("ID", string) ∷ ("IDREF", string) ∷ ("integer", decimal) ∷ ("nonPositiveInteger", decimal)
    ∷ ("negativeInteger", decimal) ∷ ("long", decimal) ∷ ("int", decimal) ∷ ("short", decimal) ∷ ("byte", decimal)
    ∷ ("nonNegativeInteger", decimal) ∷ ("unsignedLong", decimal) ∷ ("unsignedInt", decimal) ∷ ("unsignedShort", decimal)
    ∷ ("unsignedByte", decimal) ∷ ("positiveInteger", decimal)
    ∷ []

unfoldable pub builtins : List (String × RustType)
builtins = primitives ++ derived

unfoldable pub first_match : Text → List (String × RustType) → Option RustType
first_match word [] = none
first_match word (entry ∷ rest) = if is word entry.0 then some entry.1 else first_match word rest

-- 001: let local = name.split(':').next_back().unwrap_or(name); match local { .. }
unfoldable pub map_builtin : Text → Option RustType
map_builtin name = first_match (local_name name) builtins

-- "A reference is a: 0 named (the pair, normalised), 1 String, 2 Bool, 3 Decimal, 4 Date, 5 DateTime (pair unused)."
abbrev pub rust_type_number : RustType → ℕ
rust_type_number string = 1
rust_type_number bool = 2
rust_type_number decimal = 3
rust_type_number date = 4
rust_type_number date_time = 5

abbrev pub reference : Option RustType → ℕ
reference none = 0
reference (some t) = rust_type_number t
