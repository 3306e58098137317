-- A text cut at the first place of a byte.
--     before_first c s    what stands before the first c of s, or all of it
--     behind_first c s    what stands behind the first c of s, or nothing
use Rattle.std.specs.Prelude.{ℕ, [], ◌∷◌, eqb, if◌then◌else◌}
use Rattle.text.specs.Text.{Text}

unfoldable pub before_first : ℕ → Text → Text
before_first c [] = []
before_first c (b ∷ s) = if eqb b c then [] else b ∷ before_first c s

unfoldable pub behind_first : ℕ → Text → Text
behind_first c [] = []
behind_first c (b ∷ s) = if eqb b c then s else behind_first c s
