-- What the number leaf's answers say in the terms of Number: the value, or the paper's refusal 10.
use Rattle.std.specs.Prelude.{ℕ, Option, Some, None}
use Rattle.number.specs.Number.{Parsed, parsed, refused}

abbrev pub of_number : Option ℕ → Parsed
of_number (Some v) = parsed v
of_number None = refused 10
