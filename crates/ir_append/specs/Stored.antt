-- Texts stored into the names from a place on.
--     Stored        the text t was stored
--     Stores        what storing the text t answers and leaves
--     recipe_bytes   the bytes of a recipe's three texts
--     Spread        the three texts of a recipe were stored, so long
--     Spreads       what storing them answers and leaves
--     offset_of      the offset of a row's pair: "an unused pair is 0 0"
--     recipe_numbers  the ten numbers of a recipe's row whose texts, so long, stand in the names from `at`
use Rattle.std.specs.Prelude.{ℕ, Option, MatchOption, ◌+◌, ◌≤◌, ◌<◌, ◌≡◌, List, [], ◌∷◌, ◌++◌, length, if◌then◌else◌}
use Rattle.std.proofs.Math.Seq.{paste}
use Rattle.text.specs.Text.{Text}
use Rattle.ir_append.specs.declared.Spelling.{Spelling}
use Rattle.ir_append.specs.declared.Recipe.{Recipe}
use Rattle.ir_append.specs.Spelled.{text_by_spelling, is_nothing}

pub record Stored (names : List ℕ) (at : ℕ) (t : Text) (names' : List ℕ) (n : ℕ) : Type 0 where
  pub count : n ≡ length t
  pub inside : at + n ≤ length names
  pub holds : names' ≡ paste names at t n

abbrev pub Stores : List ℕ → ℕ → Text → List ℕ → Option ℕ → Type 0
Stores names at t names' answer = MatchOption answer (length names < at + length t) (λ n. Stored names at t names' n)

unfoldable pub recipe_bytes : Recipe → Text → Text → Text
recipe_bytes p t u = text_by_spelling p.first t u ++ (text_by_spelling p.second t u ++ text_by_spelling p.third t u)

pub record Spread (names : List ℕ) (at : ℕ) (p : Recipe) (t u : Text) (names' : List ℕ) (first second third : ℕ) : Type 0 where
  pub first_length : first ≡ length (text_by_spelling p.first t u)
  pub second_length : second ≡ length (text_by_spelling p.second t u)
  pub third_length : third ≡ length (text_by_spelling p.third t u)
  pub stored : Stored names at (recipe_bytes p t u) names' (first + (second + third))

abbrev pub Spreads : List ℕ → ℕ → Recipe → Text → Text → List ℕ → Option (ℕ × ℕ × ℕ) → Type 0
Spreads names at p t u names' answer =
    MatchOption answer (length names < at + length (recipe_bytes p t u)) (λ n. Spread names at p t u names' n.0 n.1 n.2)

abbrev pub offset_of : Option Spelling → ℕ → ℕ
offset_of how at = if is_nothing how then 0 else at

unfoldable pub recipe_numbers : Recipe → ℕ → ℕ → ℕ → ℕ → List ℕ
recipe_numbers p at first second third =
    p.tag ∷ offset_of p.first at ∷ first ∷ offset_of p.second (at + first) ∷ second ∷ offset_of p.third (at + first + second) ∷ third ∷ p.a ∷ p.b ∷ p.c ∷ []
