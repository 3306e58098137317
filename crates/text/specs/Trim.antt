-- White space at the ends of a text. XML 1.0, production 3: S ::= (#x20 | #x9 | #xD | #xA)+. XML Schema Part 2, 4.3.6, collapse: leading and trailing #x20's
-- are removed, after #x9, #xA and #xD were replaced by #x20.
--     is_white_space  tab, line feed, carriage return, space, and no other byte
--     trim_start     the text without white space at its start; trim_end: at its end
--     trimmed       the text without white space at both ends
--     is_solid       no white space: the rest of the bytes
--     Around        the text is the core with white space before and behind it, or with none
use Rattle.std.specs.Prelude.{ℕ, ◌≡◌, [], ◌∷◌, ◌++◌, Bool, true, not, ◌||◌, eqb, if◌then◌else◌}
use Rattle.text.specs.Text.{Text, every}

unfoldable pub is_white_space : ℕ → Bool
is_white_space b = eqb b 9 || eqb b 10 || eqb b 13 || eqb b 32

unfoldable pub trim_start : Text → Text
trim_start [] = []
trim_start (b ∷ s) = if is_white_space b then trim_start s else b ∷ s

unfoldable pub trim_end : Text → Text
trim_end [] = []
trim_end (b ∷ s) = if every is_white_space (b ∷ s) then [] else b ∷ trim_end s

unfoldable pub trimmed : Text → Text
trimmed s = trim_end (trim_start s)

unfoldable pub is_solid : ℕ → Bool
is_solid b = not (is_white_space b)

abbrev pub Around : Text → Text → Type 0
Around core s = (before : Text) × (behind : Text) × (every is_white_space before ≡ true) × (every is_white_space behind ≡ true) × (s ≡ before ++ (core ++ behind))
