-- Paper 01, "Schema sheet": the contexts of row 0.
use Rattle.std.specs.Prelude.{ℕ}

-- "0 none"
abbrev pub none_context : ℕ
none_context = 0

-- "1 schema"
abbrev pub schema_context : ℕ
schema_context = 1

-- "2 simple type"
abbrev pub simple_type_context : ℕ
simple_type_context = 2

-- "3 complex type"
abbrev pub complex_type_context : ℕ
complex_type_context = 3
