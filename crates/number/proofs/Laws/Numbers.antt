-- Laws of specs/Number.antt, over the limit and never one for each width. No contract cites them. Assumes nothing.
--     from limit v d    what the digits d behind the value v give below the limit
use Rattle.std.specs.Prelude.{if◌then◌else◌}
use mathlib.Core.Path.{◌≡◌, refl, sym, ◌∙◌}
use mathlib.Core.Bool.{Bool, true, false}
use mathlib.Core.List.{[], ◌∷◌}
use Prim.Native.Nat.{ℕ, suc, ◌+◌, ◌-◌, ◌*◌, ◌^◌, ◌≤◌, ◌<◌}
use Prim.Native.Char.{code}
use native.Mathlib.Omega.{arith}
use native.Mathlib.Numerals.{add-one}
use native.Mathlib.Nat.{le_trans, not-suc-le-zero}
use lib.Dec.{ltb}
use lib.Pow.{pow_pos}
use lib.ListN.{length, get_or, drop, drop_of_length-le}
use lib.Seq.{drop-cons}
use borrow.Author.Tests.{ltb-true, lt-ltb, le-ltb, eq-eqb, ne_eqb}
use Rattle.text.specs.Text.{Text, every, is_digit}
use Rattle.text.specs.Trim.{trimmed}
use Rattle.text.proofs.Laws.Texts.{between-low, between-high}
use Rattle.number.specs.Number.{Parsed, parsed, refused, after_plus, is_numeral, decimal_value, below, numeral, plain_below, is_minus_zeros, number_below, number}

pub digit-within : (b : ℕ) → is_digit b ≡ true → (48 ≤ b) × (b ≤ 57)
digit-within b e = (between-low 48 57 b e, between-high 48 57 b e)

pub after_plus-plus : (s : Text) → get_or s 0 0 ≡ code "+" → after_plus s ≡ drop 1 s
unfolding after_plus
after_plus-plus [] e = refl
after_plus-plus (b ∷ s) e = rw (eq-eqb b (code "+") e)

pub after_plus-other : (s : Text) → (get_or s 0 0 ≡ code "+" → ⊥) → after_plus s ≡ s
unfolding after_plus
after_plus-other [] h = refl
after_plus-other (b ∷ s) h = rw (ne_eqb b (code "+") h)

unfoldable pub from : ℕ → ℕ → Text → Parsed
from limit v d = if every is_digit d then below limit (decimal_value v d) else refused 10

-- a test whose two answers are one
pub either_way : (t : Bool) (x : Parsed) → (if t then x else x) ≡ x
either_way true x = refl
either_way false x = refl

-- where a value comes out, the test passed
pub kept : (t : Bool) (x : Parsed) (v : ℕ) → (if t then x else refused 10) ≡ parsed v → (t ≡ true) × (x ≡ parsed v)
kept true x v e = (refl, e)
kept false x v e = let z : ◌≡◌ {A = ℕ} 0 1 = cc in absurd (omega arith)

-- a value only grows
pub value_grows : (v : ℕ) (d : Text) → v ≤ decimal_value v d
unfolding decimal_value
value_grows v [] = omega arith
value_grows v (b ∷ d) = le_trans (omega arith) (value_grows (v * 10 + (b - 48)) d)

pub below-past : (limit v : ℕ) → limit ≤ v → below limit v ≡ refused 10
unfolding below
below-past limit v h = rw (le-ltb v limit h)

pub below-within : (limit v : ℕ) → v < limit → below limit v ≡ parsed v
unfolding below
below-within limit v h = rw (lt-ltb v limit h)

pub below-bound : (limit n v : ℕ) → below limit n ≡ parsed v → v < limit
unfolding below
below-bound limit n v e =
    let k = kept (ltb n limit) (parsed n) v e in
    let h : n < limit = ltb-true n limit k.0 in
    let s : n ≡ v = cc k.1 in
    omega arith

-- a value that reaches the limit is refused, whatever follows
pub from_past : (limit v : ℕ) (d : Text) → limit ≤ v → from limit v d ≡ refused 10
unfolding from
from_past limit v d h = rw (below-past limit (decimal_value v d) (le_trans h (value_grows v d))) (either_way (every is_digit d) (refused 10))

pub from-over : (limit v : ℕ) (d : Text) (i : ℕ) → i < length d → is_digit (get_or d i 0) ≡ true → limit ≤ v * 10 + (get_or d i 0 - 48) → from limit v (drop i d) ≡ refused 10
unfolding from every decimal_value
from-over limit v d i h e p = rw (drop-cons d i 0 h, e) (from_past limit (v * 10 + (get_or d i 0 - 48)) (drop (suc i) d) p)

-- ---- the digits of d before place i are read: their value is below the limit, and with the digits behind them gives what d gives
pub record ReadTo (limit : ℕ) (d : Text) (v i : ℕ) : Type 0 where
  pub small : v < limit
  pub gives : from limit v (drop i d) ≡ numeral limit d

pub read-start : (limit : ℕ) (d : Text) → 0 < length d → 0 < limit → ReadTo limit d 0 0
unfolding from numeral is_numeral
read-start limit [] h k = absurd (not-suc-le-zero h)
read-start limit (b ∷ d) h k = record { small = k; gives = refl }

module _ {limit : ℕ} {d : Text} {v i : ℕ} (w : ReadTo limit d v i) where
  pub read-end : length d ≤ i → parsed v ≡ numeral limit d
  unfolding from every decimal_value
  read-end h = rw (drop_of_length-le d h, below-within limit v w.small) at w.gives

  module _ (h : i < length d) where
    -- any other byte refuses
    pub read-other : is_digit (get_or d i 0) ≡ false → refused 10 ≡ numeral limit d
    unfolding from every
    read-other e = rw (drop-cons d i 0 h, e) at w.gives

    on : is_digit (get_or d i 0) ≡ true → from limit (v * 10 + (get_or d i 0 - 48)) (drop (suc i) d) ≡ numeral limit d
    unfolding from every decimal_value
    on e = rw (drop-cons d i 0 h, e) at w.gives

    -- a digit that reaches the limit refuses
    pub read-over : {x : ℕ} → (is_digit (get_or d i 0) ≡ true) × (x ≡ get_or d i 0 - 48) → limit ≤ v * 10 + x → refused 10 ≡ numeral limit d
    read-over e p = sym (from_past limit _ (drop (suc i) d) (rw e.1 at p)) ∙ on e.0

    pub read-digit : {x n : ℕ} → (is_digit (get_or d i 0) ≡ true) × (x ≡ get_or d i 0 - 48) → n ≡ v * 10 + x → n < limit → ReadTo limit d n (i + 1)
    read-digit e q l = record { small = l; gives = rw (q, e.1, add-one i) (on e.0) }

pub numeral-none : (limit : ℕ) (d : Text) → length d ≡ 0 → numeral limit d ≡ refused 10
unfolding numeral is_numeral
numeral-none limit [] e = refl
numeral-none limit (b ∷ d) e = absurd (omega arith)

pub numeral-bound : (limit : ℕ) (d : Text) (v : ℕ) → numeral limit d ≡ parsed v → v < limit
unfolding numeral
numeral-bound limit d v e = below-bound limit (decimal_value 0 d) v (kept (is_numeral d) (below limit (decimal_value 0 d)) v e).1

pub plain_below-bound : (limit : ℕ) (s : Text) (v : ℕ) → plain_below limit s ≡ parsed v → v < limit
unfolding plain_below
plain_below-bound limit s v e = numeral-bound limit (after_plus s) v e

pub number_below-bound : (limit : ℕ) (s : Text) (v : ℕ) → 0 < limit → number_below limit s ≡ parsed v → v < limit
unfolding number_below
number_below-bound limit s v h e = go (is_minus_zeros (trimmed s)) e
  where
    go : (t : Bool) → (if t then parsed 0 else plain_below limit (trimmed s)) ≡ parsed v → v < limit
    go true e = let z : 0 ≡ v = cc in omega arith
    go false e = plain_below-bound limit (trimmed s) v e

pub number_bound : (w : ℕ) (s : Text) (v : ℕ) → number w s ≡ parsed v → v < 2 ^ w
unfolding number
number_bound w s v e = number_below-bound (2 ^ w) s v (pow_pos w) e
