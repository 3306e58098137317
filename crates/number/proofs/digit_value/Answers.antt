-- `number::digit_value` meets its contract: of the digits of base 36 those below 10 are the bytes from 48 to 57. Assumes nothing.
use Prim.Native.Nat.{ℕ, ◌-◌, ◌<◌, ◌≤◌}
use native.Mathlib.Omega.{arith}
use mathlib.Core.Path.{◌≡◌}
use mathlib.Core.Bool.{true, false}
use borrow.Author.Tests.{le-leb}
use Rattle.std.proofs.Common.{rules, inl, inr}
use Rattle.std.specs.Char.{digit_value, NotDecimalDigitIn, IsDigitOf}
use Rattle.std.specs.Option.{SomeIff}
use Rattle.std.specs.Prelude.{Option, Some, None, MatchOption, IsSomeAnd}
use Rattle.text.specs.Text.{between, is_digit}
use Rattle.text.proofs.Laws.Tests.{bool_cases}
use Rattle.number.proofs.Laws.Numbers.{digit-within}
use Rattle.number.proofs.digit_value.Goals as goal

-- no digit, or one with its value
abbrev Valued : ℕ → Option ℕ → Type 0
Valued b r = MatchOption r (is_digit b ≡ false) (λ d. (is_digit b ≡ true) × (d ≡ b - 48))

within : (b : ℕ) → 48 ≤ b → b ≤ 57 → is_digit b ≡ true
unfolding between
within b h k = rw (le-leb 48 b h, le-leb b 57 k)

none : (b : ℕ) → NotDecimalDigitIn 10 b → Valued b None
none b h = bool_cases (is_digit b) (λ e. let (x, y) = digit-within b e in let z = h x y in absurd (omega arith)) (λ e. e)

some : (b d : ℕ) → d < 10 → IsDigitOf b d → Valued b (Some d)
some b d k h =
    elim h [
      | inl x ↦ (within b (omega arith) (omega arith), omega arith)
      | inr y ↦ absurd (elim y [ inl z ↦ omega arith | inr z ↦ omega arith ])
    ]

mapped : (Q : ℕ → ℕ → Type 0) (b : ℕ) (o r : Option ℕ) → SomeIff o (digit_value b < 10) (digit_value b) → MatchOption o (NotDecimalDigitIn 10 b) (IsDigitOf b)
    → MatchOption o (r ≡ None) (λ d. IsSomeAnd r (Q d)) → ((d n : ℕ) → Q d n → n ≡ d) → Valued b r
mapped Q b None r v h m f = rw m (none b h)
mapped Q b (Some d) None v h m f = absurd m
mapped Q b (Some d) (Some n) v h m f = rw (f d n m) (some b d (rw v.1 v.0) h)

pub returns : goal.returns
returns c =
    mapped _ c.args.b c.to_digit.result c.map.result (rw c.from.ensures at c.to_digit.ensures.value) (rw c.from.ensures at c.to_digit.ensures.cases) c.map.ensures.cases
    (λ d n h. search rules)
