-- Laws of the spellings that order 2 adds (specs/Number.antt): a text that paper 01 takes keeps its value, and what is taken is white space around such a
-- text or around minus zeros, and nothing else. Such a core has no white space, so trimming gives it back whole. No contract cites them. Assumes nothing.
use Rattle.std.specs.Prelude.{if◌then◌else◌, ◌&&◌}
use Rattle.std.specs.List.{list_all}
use mathlib.Core.Path.{◌≡◌, refl, sym}
use mathlib.Core.Logic.{◌↔◌, inl, inr}
use mathlib.Core.Bool.{Bool, true, false, false≢true}
use mathlib.Core.List.{[], ◌∷◌, append-nil}
use Prim.Native.Nat.{ℕ, ◌^◌, ◌≤◌, ◌<◌}
use Prim.Native.Char.{code}
use native.Mathlib.Omega.{arith}
use native.Mathlib.Nat.{not-suc-le-zero}
use lib.Dec.{eqb}
use lib.ListN.{length, get_or, drop}
use borrow.Author.Tests.{eqb-true, eq-eqb, ne_eqb}
use Rattle.text.specs.Text.{Text, every, between, is_digit}
use Rattle.text.specs.Trim.{is_white_space, is_solid, trimmed, Around}
use Rattle.text.proofs.Laws.Tests.{and-true-left, and-true-right, bool_cases}
use Rattle.text.proofs.Laws.Every.{every-cons, every-weaken}
use Rattle.text.proofs.Laws.Trim.{trimmed-around, around-trimmed}
use Rattle.number.specs.Number.{parsed, refused, after_plus, is_numeral, decimal_value, below, numeral, plain_below, plain_number, is_zero, is_minus_zeros, number_below, number, SpellsBelow, Spells}
use Rattle.number.proofs.Laws.Numbers.{digit-within, kept}

pub minus-short : (s : Text) → length s < 2 → is_minus_zeros s ≡ false
unfolding is_minus_zeros
minus-short [] h = refl
minus-short (b ∷ []) h = refl
minus-short (b ∷ c ∷ s) h = absurd (omega arith)

pub minus-other : (s : Text) → (get_or s 0 0 ≡ code "-" → ⊥) → is_minus_zeros s ≡ false
unfolding is_minus_zeros
minus-other [] h = refl
minus-other (b ∷ []) h = refl
minus-other (b ∷ c ∷ s) h = rw (ne_eqb b (code "-") h)

every-all : (p : ℕ → Bool) (s : Text) → list_all p s ≡ every p s
unfolding every
every-all p [] = refl
every-all p (b ∷ s) = rw (every-all p s)

pub minus-second : (s : Text) → (get_or s 1 0 ≡ code "0" → ⊥) → is_minus_zeros s ≡ false
unfolding is_minus_zeros every
minus-second [] h = refl
minus-second (b ∷ []) h = refl
minus-second (b ∷ c ∷ s) h = rw (ne_eqb c (code "0") h) (and-false (eqb b (code "-")))
  where
    and-false : (t : Bool) → (t && false) ≡ false
    and-false true = refl
    and-false false = refl

pub minus-all : (s : Text) → 2 ≤ length s → get_or s 0 0 ≡ code "-" → get_or s 1 0 ≡ code "0" → list_all is_zero (drop 2 s) ≡ is_minus_zeros s
unfolding is_minus_zeros every
minus-all [] h e f = absurd (not-suc-le-zero h)
minus-all (b ∷ []) h e f = absurd (omega arith)
minus-all (b ∷ c ∷ s) h e f = rw (eq-eqb b (code "-") e, eq-eqb c (code "0") f) (every-all is_zero s)

pub minus-start : (s : Text) → 2 ≤ length s → get_or s 0 0 ≡ code "-" → every is_zero (drop 1 s) ≡ is_minus_zeros s
unfolding is_minus_zeros
minus-start [] h e = absurd (not-suc-le-zero h)
minus-start (b ∷ []) h e = absurd (omega arith)
minus-start (b ∷ c ∷ s) h e = rw (eq-eqb b (code "-") e)

-- no digit and no sign is white space
other-solid : (b : ℕ) → 32 < b → is_solid b ≡ true
unfolding is_solid is_white_space
other-solid b h = rw (ne_eqb b 9 (λ e. omega arith), ne_eqb b 10 (λ e. omega arith), ne_eqb b 13 (λ e. omega arith), ne_eqb b 32 (λ e. omega arith))

digit-solid : (b : ℕ) → is_digit b ≡ true → is_solid b ≡ true
digit-solid b e = other-solid b (omega (arith, digit-within b e))

digits-solid : (s : Text) → is_numeral s ≡ true → every is_solid s ≡ true
unfolding is_numeral
digits-solid [] e = absurd (false≢true e)
digits-solid (b ∷ s) e = every-weaken is_digit is_solid digit-solid (b ∷ s) e

plus-solid : (s : Text) → is_numeral (after_plus s) ≡ true → every is_solid s ≡ true
unfolding after_plus
plus-solid [] e = digits-solid [] e
plus-solid (b ∷ s) e =
    bool_cases (eqb b (code "+"))
    (λ p. every-cons is_solid b s (other-solid b (omega (arith, eqb-true b (code "+") p))) (digits-solid s (rw p at e)))
    (λ p. digits-solid (b ∷ s) (rw p at e))

pub plain-solid : (limit : ℕ) (s : Text) (v : ℕ) → plain_below limit s ≡ parsed v → every is_solid s ≡ true
unfolding plain_below numeral
plain-solid limit s v e = plus-solid s (kept (is_numeral (after_plus s)) (below limit (decimal_value 0 (after_plus s))) v e).0

zero-solid : (b : ℕ) → is_zero b ≡ true → is_solid b ≡ true
zero-solid b e = other-solid b (omega (arith, eqb-true b (code "0") e))

pub minus-solid : (s : Text) → is_minus_zeros s ≡ true → every is_solid s ≡ true
unfolding is_minus_zeros
minus-solid [] e = absurd (false≢true e)
minus-solid (b ∷ []) e = absurd (false≢true e)
minus-solid (b ∷ c ∷ s) e =
    every-cons is_solid b (c ∷ s)
    (other-solid b (omega (arith, eqb-true b (code "-") (and-true-left (eqb b (code "-")) (every is_zero (c ∷ s)) e))))
    (every-weaken is_zero is_solid zero-solid (c ∷ s) (and-true-right (eqb b (code "-")) (every is_zero (c ∷ s)) e))

-- minus zeros were refused
minus-numeral : (s : Text) → is_minus_zeros s ≡ true → is_numeral (after_plus s) ≡ false
unfolding is_minus_zeros after_plus is_numeral every between
minus-numeral [] e = absurd (false≢true e)
minus-numeral (b ∷ []) e = absurd (false≢true e)
minus-numeral (b ∷ c ∷ s) e =
    let m : b ≡ code "-" = eqb-true b (code "-") (and-true-left (eqb b (code "-")) (every is_zero (c ∷ s)) e) in
    rw m refl

pub minus-plain : (limit : ℕ) (s : Text) → is_minus_zeros s ≡ true → plain_below limit s ≡ refused 10
unfolding plain_below numeral
minus-plain limit s e = rw (minus-numeral s e)

-- "The number leaf takes both from now on": the cores are what paper 01 takes, and minus zeros
spells-solid : (limit : ℕ) (core : Text) (v : ℕ) → SpellsBelow limit core v → every is_solid core ≡ true
spells-solid limit core v (inl e) = plain-solid limit core v e
spells-solid limit core v (inr (m, z)) = minus-solid core m

spells-value : (limit : ℕ) (core : Text) (v : ℕ) → SpellsBelow limit core v → (if is_minus_zeros core then parsed 0 else plain_below limit core) ≡ parsed v
spells-value limit core v (inl e) =
    bool_cases (is_minus_zeros core)
    (λ m. let r = minus-plain limit core m in let z : ◌≡◌ {A = ℕ} 0 1 = cc in absurd (omega arith))
    (λ m. rw m e)
spells-value limit core v (inr (m, z)) = rw (m, z)

value-spells : (limit : ℕ) (core : Text) (v : ℕ) (t : Bool) → is_minus_zeros core ≡ t → (if t then parsed 0 else plain_below limit core) ≡ parsed v → SpellsBelow limit core v
value-spells limit core v true m e = inr (m, cc)
value-spells limit core v false m e = inl e

-- exactly the cores with white space around them, or none, are taken
pub number_below-exactly : (limit : ℕ) (s : Text) (v : ℕ) → (number_below limit s ≡ parsed v) ↔ ((core : Text) × Around core s × SpellsBelow limit core v)
unfolding number_below
number_below-exactly limit s v = (
  λ e. (trimmed s, trimmed-around s, value-spells limit (trimmed s) v (is_minus_zeros (trimmed s)) refl e),
  λ c. rw (around-trimmed c.0 s (spells-solid limit c.0 v c.2) c.1) (spells-value limit c.0 v c.2),
)

-- a text that paper 01 takes keeps its value
pub number_below-kept : (limit : ℕ) (s : Text) (v : ℕ) → plain_below limit s ≡ parsed v → number_below limit s ≡ parsed v
unfolding every
number_below-kept limit s v e = (number_below-exactly limit s v).1 (s, ([], [], refl, refl, sym (append-nil s)), inl e)

-- both at a width
pub number-exactly : (w : ℕ) (s : Text) (v : ℕ) → (number w s ≡ parsed v) ↔ ((core : Text) × Around core s × Spells w core v)
unfolding number plain_number
number-exactly w s v = number_below-exactly (2 ^ w) s v

pub number-kept : (w : ℕ) (s : Text) (v : ℕ) → plain_number w s ≡ parsed v → number w s ≡ parsed v
unfolding number plain_number
number-kept w s v e = number_below-kept (2 ^ w) s v e
