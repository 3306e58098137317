-- The names of types by the places of their heads. Row 0 is at place 0.
--     name_at rows names p         the normalised name of the type whose head stands at place p
use Rattle.std.specs.Prelude.{ℕ, List}
use Rattle.text.specs.Text.{Text}
use Rattle.names.specs.Names.{normalize_type_name}
use Rattle.xsd_types.specs.Back.{text0}
use Rattle.xsd_types.specs.Places.{row_at}

unfoldable pub name_at : List ℕ → List ℕ → ℕ → Text
name_at rows names p = normalize_type_name (text0 (row_at rows names p))
