-- What a text gives below a limit, from what it gives below a larger one, and from what paper 01 takes alone. No contract cites them. Assumes nothing.
--     cut limit p    what is given below a larger limit, where it is below this one
use Rattle.std.specs.Prelude.{ℕ, ◌≤◌, ◌<◌, ◌^◌, Bool, true, false, Option, Some, None, OkIff, MatchOption, if◌then◌else◌}
use Rattle.std.specs.declared.result.Result.{Result}
use Rattle.std.specs.declared.result.Result.TheVariants.{Ok, Err}
use Rattle.std.specs.Result.{result_ok}
use mathlib.Core.Path.{◌≡◌, refl, sym, ap, ◌∙◌}
use native.Mathlib.Omega.{arith}
use lib.Dec.{ltb}
use borrow.Author.Tests.{ltb-false}
use Rattle.text.specs.Text.{Text}
use Rattle.text.specs.Trim.{trimmed}
use Rattle.number.specs.Number.{Parsed, parsed, refused, after_plus, is_numeral, decimal_value, below, numeral, plain_below, plain_number, is_minus_zeros, number_below, number}
use Rattle.number.specs.Answers.{of_number}
use Rattle.number.proofs.Laws.Numbers.{below-past, below-within}
use Rattle.number.proofs.Laws.Spellings.{number-kept}

unfoldable pub cut : ℕ → Parsed → Parsed
cut limit (parsed v) = below limit v
cut limit (refused r) = refused r

cut-below : (limit top v : ℕ) → limit ≤ top → below limit v ≡ cut limit (below top v)
unfolding below cut
cut-below limit top v h = go (ltb v top) refl
  where
    go : (t : Bool) → ltb v top ≡ t → below limit v ≡ cut limit (if t then parsed v else refused 10)
    go true e = refl
    go false e = below-past limit v (omega (arith, ltb-false v top e))

cut-numeral : (limit top : ℕ) (d : Text) → limit ≤ top → numeral limit d ≡ cut limit (numeral top d)
unfolding numeral cut
cut-numeral limit top d h = go (is_numeral d)
  where
    go : (t : Bool) → (if t then below limit (decimal_value 0 d) else refused 10) ≡ cut limit (if t then below top (decimal_value 0 d) else refused 10)
    go true = cut-below limit top (decimal_value 0 d) h
    go false = refl

-- what is given below a limit is what is given below a larger one, where that is below the limit
pub number_below-cut : (limit top : ℕ) (s : Text) → 0 < limit → limit ≤ top → number_below limit s ≡ cut limit (number_below top s)
unfolding number_below plain_below cut
number_below-cut limit top s h k = go (is_minus_zeros (trimmed s))
  where
    go : (t : Bool) → (if t then parsed 0 else numeral limit (after_plus (trimmed s))) ≡ cut limit (if t then parsed 0 else numeral top (after_plus (trimmed s)))
    go true = sym (below-within limit 0 h)
    go false = cut-numeral limit top (after_plus (trimmed s)) k

number-cut : (s : Text) → number 32 s ≡ cut (2 ^ 32) (number 64 s)
unfolding number
number-cut s = number_below-cut (2 ^ 32) (2 ^ 64) s (omega arith) (omega arith)

pub narrow-none : (s : Text) → number 64 s ≡ refused 10 → number 32 s ≡ refused 10
unfolding cut
narrow-none s e = number-cut s ∙ ap (cut (2 ^ 32)) e

-- the conversion to a u32 of the value of a u64
pub narrow : {E : Type 0} (r : Result ℕ E) (v : ℕ) (s : Text) → number 64 s ≡ parsed v → OkIff r (v < 2 ^ 32) v → of_number (result_ok r) ≡ number 32 s
unfolding cut
narrow (Ok x) v s e h = ap parsed h.1 ∙ sym (below-within (2 ^ 32) v h.0) ∙ sym (number-cut s ∙ ap (cut (2 ^ 32)) e)
narrow (Err x) v s e h = sym (below-past (2 ^ 32) v (omega arith)) ∙ sym (number-cut s ∙ ap (cut (2 ^ 32)) e)

-- the plain reading first, and what has the spellings where it gives none
pub plain-or : (P : Type 0) (p r : Option ℕ) (s : Text) → of_number p ≡ plain_number 64 s → MatchOption p P (λ x. r ≡ Some x) → (P → of_number r ≡ number 64 s) → of_number r ≡ number 64 s
plain-or P None r s e h f = f h
plain-or P (Some x) r s e h f = ap of_number h ∙ sym (number-kept 64 s x (sym e))
