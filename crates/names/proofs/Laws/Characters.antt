-- How a text begins, as the code looks at it: by the first byte and the one behind it, 0 where there is none, which is no tail. Assumes nothing.
use mathlib.Core.Path.{◌≡◌, sym, ◌∙◌}
use mathlib.Core.Bool.{true, false, ◌&&◌, false≢true}
use mathlib.Core.List.{List, [], ◌∷◌}
use Prim.Native.Nat.{ℕ, suc, ◌≤◌, ◌<◌}
use native.Mathlib.Omega.{arith}
use lib.ListN.{length, drop, get_or}
use lib.Seq.{drop-cons}
use borrow.Author.Tests.{ne_eqb}
use Rattle.text.specs.Text.{Text, is_tail, between, first}
use Rattle.text.specs.Characters.{is_lead, characters, is_byte}
use Rattle.text.proofs.Laws.Tests.{and-true-right, bool_cases}
use Rattle.text.proofs.Laws.Texts.{between-below}
use Rattle.text.proofs.Laws.Characters.{characters-one, characters-two}

pub tail-there : (b t : ℕ) (s : Text) → t ≡ first s → is_lead b && is_tail t ≡ true → 1 ≤ length s
unfolding first is_tail between
tail-there b t [] f e = absurd (false≢true (and-true-right (is_lead b) false (rw f at e)))
tail-there b t (u ∷ s) f e = omega arith

pub split-two : (b t : ℕ) (s : Text) → t ≡ first s → is_lead b && is_tail t ≡ true → (characters (b ∷ s) ≡ (b ∷ t ∷ []) ∷ characters (drop 1 s)) × (length (drop 1 s) ≤ length s)
unfolding first is_tail between
split-two b t [] f e = absurd (false≢true (and-true-right (is_lead b) false (rw f at e)))
split-two b t (v ∷ s) f e = rw f (characters-two b v s (rw f at e), omega arith)

pub split-one : (b t : ℕ) (s : Text) → t ≡ first s → is_lead b && is_tail t ≡ false → (characters (b ∷ s) ≡ (b ∷ []) ∷ characters s) × (length s ≤ length s)
split-one b t s f e = (characters-one b s (rw f at e), omega arith)

-- ---- a byte below 128 is a character

low-lead : (b : ℕ) → b < 128 → is_lead b ≡ false
unfolding is_lead
low-lead b h = rw (between-below 194 197 b (omega arith), ne_eqb b 202 (λ w. omega arith), ne_eqb b 204 (λ w. omega arith), ne_eqb b 206 (λ w. omega arith))

pub one-byte : (b : ℕ) (s : Text) → b < 128 → characters (b ∷ s) ≡ (b ∷ []) ∷ characters s
one-byte b s h = characters-one b s (rw (low-lead b h))

pub byte-at : (s : Text) (i : ℕ) → i < length s → get_or s i 0 < 128 → characters (drop i s) ≡ (get_or s i 0 ∷ []) ∷ characters (drop (suc i) s)
byte-at s i h k = rw (drop-cons s i 0 h) (one-byte (get_or s i 0) (drop (suc i) s) k)

-- a character that begins with a byte from 128 on is no byte below 128
pub high-other : (b k : ℕ) (s c : Text) (cs : List Text) → 128 ≤ b → k < 128 → characters (b ∷ s) ≡ c ∷ cs → is_byte k c ≡ false
unfolding is_byte first is_tail between
high-other b k s c cs h l e =
    bool_cases (is_lead b && is_tail (first s))
    (λ w. two s w e)
    (λ w. let f : (b ∷ []) ∷ characters s ≡ c ∷ cs = sym (characters-one b s w) ∙ e in let g : b ∷ [] ≡ c = cc in rw (← g) (ne_eqb b k (λ z. omega arith)))
  where
    two : (s : Text) → is_lead b && is_tail (first s) ≡ true → characters (b ∷ s) ≡ c ∷ cs → is_byte k c ≡ false
    two [] w e = absurd (false≢true (and-true-right (is_lead b) false w))
    two (t ∷ s) w e = let f : (b ∷ t ∷ []) ∷ characters s ≡ c ∷ cs = sym (characters-two b t s w) ∙ e in let g : b ∷ t ∷ [] ≡ c = cc in rw (← g)
