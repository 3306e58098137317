-- The texts that a row uses.
--     used_texts, used_length    the texts of a row that uses so many pairs, and their bytes
--     listed         the text that an answer of the code holds, if it holds one, in a list
use Rattle.std.specs.Prelude.{ℕ, zero, suc, ◌+◌, List, [], ◌∷◌, take, Option, Some, None}
use Rattle.std.specs.Borrow.{Bor}
use Rattle.text.specs.Text.{Text}

abbrev pub used_texts : ℕ → Text → Text → List Text
used_texts pairs first second = take pairs (first ∷ second ∷ [])

abbrev pub used_length : ℕ → ℕ → ℕ → ℕ
used_length zero first second = 0
used_length (suc zero) first second = first
used_length (suc (suc n)) first second = first + second

abbrev pub listed : Option (Bor Text) → List Text
listed (Some t) = t.now ∷ []
listed None = []
