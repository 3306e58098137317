-- The built-in names as 001 (lower.rs), `map_builtin`, lists them: for the claim that order 9 changes no answer, and for nothing else.
--     source_builtins    the names of its `match`, from above, each with the type of its arm
use Prim.Native.String.{String}
use Rattle.std.specs.Prelude.{List, [], ◌∷◌}
use Rattle.builtin.specs.Builtin.{RustType, string, bool, decimal, date, date_time}

unfoldable pub source_builtins : List (String × RustType)
source_builtins =
    ("string", string) ∷ ("normalizedString", string) ∷ ("token", string) ∷ ("ID", string) ∷ ("IDREF", string)
    ∷ ("NMTOKEN", string) ∷ ("anyURI", string) ∷ ("language", string) ∷ ("Name", string) ∷ ("NCName", string)
    ∷ ("base64Binary", string) ∷ ("hexBinary", string) ∷ ("time", string) ∷ ("gYear", string) ∷ ("gYearMonth", string)
    ∷ ("gMonth", string) ∷ ("gMonthDay", string) ∷ ("gDay", string) ∷ ("duration", string)
    ∷ ("boolean", bool)
    ∷ ("decimal", decimal) ∷ ("integer", decimal) ∷ ("int", decimal) ∷ ("long", decimal) ∷ ("short", decimal)
    ∷ ("byte", decimal) ∷ ("nonNegativeInteger", decimal) ∷ ("positiveInteger", decimal) ∷ ("unsignedInt", decimal)
    ∷ ("unsignedLong", decimal) ∷ ("unsignedShort", decimal) ∷ ("unsignedByte", decimal)
    ∷ ("nonPositiveInteger", decimal) ∷ ("negativeInteger", decimal) ∷ ("float", decimal) ∷ ("double", decimal)
    ∷ ("date", date)
    ∷ ("dateTime", date_time)
    ∷ []
