-- Laws of characters (specs/Characters.antt): induction over them, what they are put together, and that each one of a text is a text. Assumes nothing.
use mathlib.Core.Path.{◌≡◌, refl, sym, ◌∙◌}
use mathlib.Core.Bool.{true, false, ◌&&◌, and-false, false≢true}
use mathlib.Core.List.{[], ◌∷◌}
use Prim.Native.Nat.{ℕ, ◌≤◌}
use native.Mathlib.Omega.{arith}
use lib.Dec.{eqb, ltb}
use borrow.Author.Tests.{le-ltb, eqb-true}
use Rattle.text.specs.Text.{Text, every, is_tail, is_pair, is_text, between, first}
use Rattle.text.specs.Characters.{is_lead, characters}
use Rattle.std.proofs.lemmas.Bool.{and_parts}
use Rattle.text.proofs.Laws.Tests.{and-true-left, and-true-right, and-true, or_four, bool_cases}
use Rattle.text.proofs.Laws.Texts.{between-low}
use Rattle.text.proofs.Laws.Class.{empty-text, text-behind, text-pair, text-high}

-- ---- how a text begins

-- with a byte of its own
pub characters-one : (b : ℕ) (s : Text) → is_lead b && is_tail (first s) ≡ false → characters (b ∷ s) ≡ (b ∷ []) ∷ characters s
unfolding characters first
characters-one b [] e = refl
characters-one b (t ∷ s) e = rw e

-- with a character of two bytes
pub characters-two : (b t : ℕ) (s : Text) → is_lead b && is_tail t ≡ true → characters (b ∷ t ∷ s) ≡ (b ∷ t ∷ []) ∷ characters s
unfolding characters
characters-two b t s e = rw e

-- what holds of the empty text, and of a text that begins with a character where it holds of the rest, holds of every text
pub by_characters : (P : Text → Type 0) → P [] → ((b : ℕ) (s : Text) → is_lead b && is_tail (first s) ≡ false → P s → P (b ∷ s))
    → ((b t : ℕ) (s : Text) → is_lead b && is_tail t ≡ true → P s → P (b ∷ t ∷ s)) → (s : Text) → P s
unfolding first is_tail between
by_characters P none one more [] = none
by_characters P none one more (b ∷ []) = one b [] (and-false (is_lead b)) none
by_characters P none one more (b ∷ t ∷ s) =
    bool_cases (is_lead b && is_tail t)
    (λ e. more b t s e (by_characters P none one more s))
    (λ e. one b (t ∷ s) e (by_characters P none one more (t ∷ s)))

-- ---- the bytes of a character of two: from 128 on, without case

pub lead-low : (b : ℕ) → is_lead b ≡ true → 194 ≤ b
unfolding is_lead
lead-low b e =
    or_four (between 194 197 b) (eqb b 202) (eqb b 204) (eqb b 206) e
    (λ w. between-low 194 197 b w)
    (λ w. omega (arith, eqb-true b 202 w))
    (λ w. omega (arith, eqb-true b 204 w))
    (λ w. omega (arith, eqb-true b 206 w))

pub lead-high : (b t : ℕ) → is_lead b && is_tail t ≡ true → 128 ≤ b
lead-high b t e = omega (arith, lead-low b (and-true-left (is_lead b) (is_tail t) e))

pub tail-high : (b t : ℕ) → is_lead b && is_tail t ≡ true → 128 ≤ t
unfolding is_tail
tail-high b t e = between-low 128 191 t (and-true-right (is_lead b) (is_tail t) e)

-- ---- characters of a text

-- a sheet's character is one of `characters`
pub pair-character : (b t : ℕ) → is_pair b t ≡ true → is_lead b && is_tail t ≡ true
unfolding is_pair is_lead
pair-character b t e = let (x, y) = and_parts (between 194 197 b) (is_tail t) e in and-true (rw x) y

-- a text that begins with a byte of its own: the byte is below 128
one-text : (b : ℕ) (s : Text) → is_lead b && is_tail (first s) ≡ false → is_text (b ∷ s) ≡ true → (is_text (b ∷ []) ≡ true) × (is_text s ≡ true)
unfolding first
one-text b s e k = bool_cases (ltb b 128) (λ h. (text-behind b [] h ∙ empty-text, sym (text-behind b s h) ∙ k)) (λ h. absurd (high s h e k))
  where
    high : (s : Text) → ltb b 128 ≡ false → is_lead b && is_tail (first s) ≡ false → is_text (b ∷ s) ≡ true → ⊥
    high [] h e k = false≢true (sym (text-high b h) ∙ k)
    high (t ∷ s) h e k = false≢true (sym e ∙ pair-character b t (and-true-left (is_pair b t) (is_text s) (sym (text-pair b t s h) ∙ k)))

pub characters-text : (s : Text) → is_text s ≡ true → every is_text (characters s) ≡ true
unfolding characters every
characters-text s =
    by_characters (λ u. is_text u ≡ true → every is_text (characters u) ≡ true) (λ k. refl)
    (λ b u e h k. let (x, y) = one-text b u e k in rw (characters-one b u e) (and-true x (h y)))
    (λ b t u e h k.
    let wide = le-ltb b 128 (lead-high b t e) in
    let (x, y) = and_parts (is_pair b t) (is_text u) (sym (text-pair b t u wide) ∙ k) in
    rw (characters-two b t u e) (and-true (text-pair b t [] wide ∙ and-true x empty-text) (h y)))
    s
