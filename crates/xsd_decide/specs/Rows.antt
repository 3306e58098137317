-- What the private functions of this crate decide, in the terms of xsd_actions.
--     typed_row      a row with two texts and three numbers to add
use Rattle.std.specs.Prelude.{ℕ, [], ◌∷◌}
use Rattle.text.specs.Text.{Text}
use Rattle.sheet.specs.Rows.{Row, row}

unfoldable pub typed_row : ℕ → ℕ → ℕ → ℕ → Text → Text → Row
typed_row tag a b c name type_name = row tag (name ∷ type_name ∷ []) a b c
