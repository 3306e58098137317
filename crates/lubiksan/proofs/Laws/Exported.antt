-- A law of specs/Exported.antt. Assumes nothing.
use Rattle.std.specs.Prelude.{ℕ, Option, Some, None, MatchOption}
use mathlib.Core.Path.{◌≡◌, ap, sym, ◌∙◌}
use Rattle.number.specs.Number.{Parsed}
use Rattle.number.specs.Answers.{of_number}
use Rattle.lubiksan.specs.Exported.{Exported, stored_number, stored_value}

-- the number and the value of an answer are those of what it says
pub exported-as : (answer : Option ℕ) (p : Parsed) (before r after : ℕ) → of_number answer ≡ p
    → MatchOption answer ((r ≡ 10) × (after ≡ before)) (λ v. (r ≡ 0) × (after ≡ v)) → Exported p before r after
exported-as None p before r after e h = record {
  number = h.0 ∙ ap stored_number e;
  value = h.1 ∙ ap (λ (p : Parsed). stored_value p before) e;
}
exported-as (Some v) p before r after e h = record {
  number = h.0 ∙ ap stored_number e;
  value = h.1 ∙ ap (λ (p : Parsed). stored_value p before) e;
}
