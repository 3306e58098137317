-- A word of the word list is the part of the list where it starts. Assumes nothing.
use Prim.Native.Nat.{ℕ, zero, suc, ◌+◌, ◌≤◌, ◌<◌}
use mathlib.Core.Path.{◌≡◌, refl, sym, ap, ◌∙◌}
use mathlib.Core.Bool.{true, false}
use mathlib.Core.Logic.{⊎_elim}
use mathlib.Core.List.{List, [], ◌∷◌}
use native.Mathlib.Omega.{arith}
use lib.Dec.{eqb}
use lib.ListN.{length, get_or}
use borrow.Author.Tests.{eqb-true}
use Rattle.text.specs.Text.{Text, in_front, split}
use Rattle.sheet.specs.Rows.{text_at}
use Rattle.sheet.proofs.Laws.Unpacks.{length-text_at}
use Rattle.ir_types.specs.Label.{newline, words_of, good_words, word_at, label}
use Rattle.ir_types.proofs.Laws.Label.{label-number, label-refused, label-part, label-word}
use Rattle.text.proofs.Laws.Tests.{if-cases, and-true-left}

-- the text w stands in s from `at` on
pub record PartOf (s w : Text) (at : ℕ) : Type 0 where
  pub inside : at + length w ≤ length s
  pub same : text_at s at (length w) ≡ w

-- one byte more in front
part-on : (b : ℕ) (s w : Text) (at to : ℕ) → to ≡ suc at → PartOf s w at → PartOf (b ∷ s) w to
unfolding text_at
part-on b s w at to e p = rw e (record { inside = omega (arith, p.inside); same = p.same })

part-front : (b : ℕ) (s w : Text) → PartOf s w 0 → PartOf (b ∷ s) (b ∷ w) 0
unfolding text_at
part-front b s w p = record { inside = omega (arith, p.inside); same = ap (λ (t : Text). b ∷ t) p.same }

part_none : (s : Text) → PartOf s [] 0
unfolding text_at
part_none s = record { inside = omega arith; same = refl }

-- each word of a list of words stands in s where it starts
unfoldable Parts : Text → List Text → Type 0
Parts s ws = (i : ℕ) → i < length ws → PartOf s (get_or ws i []) (word_at i ws)

next-parts : (b : ℕ) (s : Text) (ws : List Text) → Parts s ws → Parts (b ∷ s) ([] ∷ ws)
unfolding Parts word_at
next-parts b s ws f zero h = part_none (b ∷ s)
next-parts b s ws f (suc i) h = part-on b s (get_or ws i []) (word_at i ws) (1 + word_at i ws) (omega arith) (f i (omega (arith, h)))

front-parts : (b : ℕ) (s : Text) (ws : List Text) → Parts s ws → Parts (b ∷ s) (in_front b ws)
unfolding Parts in_front word_at
front-parts b s [] f zero h = part-front b s [] (part_none s)
front-parts b s [] f (suc i) h = absurd (omega (arith, h))
front-parts b s (w ∷ ws) f zero h = part-front b s w (f zero (omega arith))
front-parts b s (w ∷ ws) f (suc i) h = part-on b s (get_or ws i []) (length w + 1 + word_at i ws) (suc (length w) + 1 + word_at i ws) (omega arith) (f (suc i) (omega (arith, h)))

no_bytes : Parts [] ([] ∷ [])
unfolding Parts word_at
no_bytes zero h = part_none []
no_bytes (suc i) h = absurd (omega (arith, h))

split_parts : (c : ℕ) (s : Text) → Parts s (split c s)
unfolding split
split_parts c [] = no_bytes
split_parts c (b ∷ s) =
    if-cases (Parts (b ∷ s)) (eqb b c) (λ e. next-parts b s (split c s) (split_parts c s)) (λ e. front-parts b s (split c s) (split_parts c s))

pub six-words : (words : List ℕ) → good_words words ≡ true → length (words_of words) ≡ 6
unfolding good_words
six-words words g = eqb-true (length (words_of words)) 6 (and-true-left (eqb (length (words_of words)) 6) _ g)

-- a word is the part of the list where it starts
pub word-part : (words : List ℕ) (i : ℕ) → i < length (words_of words) → PartOf words (get_or (words_of words) i []) (word_at i (words_of words))
unfolding Parts words_of
word-part words i h = split_parts newline words i h

-- a label of the word list is the part of it that starts at `at`
pub label-word-part : (rows names words : List ℕ) (k : ℕ) → (label rows names words k).in_words ≡ true → PartOf words (label rows names words k).text (label rows names words k).at
label-word-part rows names words k e =
    let (i, small, good, starts, same) = label-word rows names words k e in
    rw (starts, same) (word-part words i (omega (arith, small, six-words words good)))

-- and one of the names is the part of them that starts at `at`
part-again : (s w : Text) (at len : ℕ) → at + len ≤ length s → w ≡ text_at s at len → PartOf s w at
part-again s w at len h e =
    let n = ap length e ∙ length-text_at s at len h in
    record { inside = omega (arith, n, h); same = ap (text_at s at) n ∙ sym e }

pub label-name-part : (rows names words : List ℕ) (k : ℕ) → (label rows names words k).in_words ≡ false → PartOf names (label rows names words k).text (label rows names words k).at
label-name-part rows names words k e =
    ⊎_elim (λ z. let (len, inside, same) = label-part rows names words k z e in part-again names _ _ len inside same)
    (λ z. let (named, start, none) = label-refused rows names words k z in rw (start, none) (part_none names))
    (label-number rows names words k)
