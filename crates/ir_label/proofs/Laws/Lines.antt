-- The first word of a text and what is behind it. Assumes nothing.
use Rattle.std.specs.Prelude.{Some, None, unwrap_or, if◌then◌else◌}
use Rattle.std.specs.List.{position_or_len}
use Prim.Native.Nat.{ℕ, zero, suc, ◌+◌, ◌≤◌, ◌<◌}
use mathlib.Core.Path.{◌≡◌, refl, sym, ap, ◌∙◌}
use mathlib.Core.List.{List, [], ◌∷◌}
use native.Mathlib.Omega.{arith}
use lib.Dec.{eqb, ltb}
use lib.ListN.{length, get_or, drop, drop_of_length-le}
use lib.Seq.{drop-cons, drop-drop}
use borrow.Author.Tests.{eq-eqb, ne_eqb, ltb-true, ltb-false}
use Rattle.text.specs.Text.{Text, in_front, split}
use Rattle.text.proofs.Laws.Tests.{if-cases, bool_cases}
use Rattle.ir_types.specs.Label.{newline, words_of, word_at}
use Rattle.ir_types.proofs.Laws.Words.{word-part}
use Rattle.ir_label.specs.Lines.{line_length}

-- what stands behind the first word and its newline byte
abbrev pub behind : Text → Text
behind s = drop (suc (line_length s)) s

-- a byte in front of the first word
front-first : (b : ℕ) (ws : List Text) → length (get_or (in_front b ws) 0 []) ≡ suc (length (get_or ws 0 []))
unfolding in_front
front-first b [] = refl
front-first b (w ∷ ws) = refl

-- the length of the first word from place i on, where the byte there does not end it
pub line_on : (s : Text) (i : ℕ) → i < length s → (get_or s i 0 ≡ 10 → ⊥) → line_length (drop i s) ≡ suc (line_length (drop (suc i) s))
unfolding line_length words_of newline split
line_on s i h e = rw (drop-cons s i 0 h, ne_eqb (get_or s i 0) 10 e) (front-first (get_or s i 0) (split 10 (drop (suc i) s)))

one-more : (n : ℕ) → 1 + n ≡ suc n
one-more n = omega arith

-- the first word by the place of the first newline byte
pub line-place : (s : Text) → position_or_len (λ (b : ℕ). eqb b 10) s ≡ line_length s
unfolding line_length words_of newline split
line-place [] = refl
line-place (b ∷ s) = bool_cases (eqb b 10) (λ e. rw e refl) (λ e. rw e (one-more _ ∙ ap suc (line-place s) ∙ sym (front-first b (split 10 s))))

-- behind the first word, one byte off, stand the others
front_rest : (b : ℕ) (ws us : List Text) → ws ≡ get_or ws 0 [] ∷ us → in_front b ws ≡ get_or (in_front b ws) 0 [] ∷ us
unfolding in_front
front_rest b [] us e = absurd (omega (arith, ap length e))
front_rest b (w ∷ ws) us e = ap (in_front b) e

-- there is a first word
front-some : (b : ℕ) (ws : List Text) → 0 < length (in_front b ws)
unfolding in_front
front-some b [] = omega arith
front-some b (w ∷ ws) = omega arith

pub words-some : (s : Text) → 0 < length (words_of s)
unfolding words_of newline split
words-some [] = omega arith
words-some (b ∷ s) =
    if-cases (λ ws. 0 < length ws) (eqb b 10) {x = [] ∷ split 10 s} {y = in_front b (split 10 s)} (λ e. omega arith) (λ e. front-some b (split 10 s))

-- a word list from its first newline byte on
pub words-on : (s : Text) → line_length s < length s → words_of s ≡ get_or (words_of s) 0 [] ∷ words_of (behind s)
unfolding line_length words_of newline split
words-on [] h = absurd (omega (arith, h))
words-on (b ∷ s) h =
    if-cases (λ ws. length (get_or ws 0 []) < suc (length s) → ws ≡ get_or ws 0 [] ∷ split 10 (drop (length (get_or ws 0 [])) s)) (eqb b 10) (λ e k. refl)
    (λ e k. rw (front-first b (split 10 s)) (front_rest b (split 10 s) _ (words-on s (omega (arith, front-first b (split 10 s), k))))) h

pub line-bound : (s : Text) → line_length s ≤ length s
unfolding line_length word_at
line-bound s = omega (arith, (word-part s 0 (words-some s)).inside)

-- the first place of a test, or the length where there is none
pub place-or-end : (i n : ℕ) → i ≤ n → unwrap_or (if ltb i n then Some i else None) n ≡ i
place-or-end i n h = bool_cases (ltb i n) (λ e. rw e refl) (λ e. let l = ltb-false i n e in let same : n ≡ i = omega arith in rw e same)

-- without a newline byte the whole is one word
pub words-one : (s : Text) → line_length s ≡ length s → words_of s ≡ s ∷ []
unfolding line_length words_of newline split in_front
words-one [] e = refl
words-one (b ∷ s) e =
    if-cases (λ ws. length (get_or ws 0 []) ≡ suc (length s) → ws ≡ (b ∷ s) ∷ []) (eqb b 10) (λ t k. absurd (omega (arith, k)))
    (λ t k. ap (in_front b) (words-one s (omega (arith, front-first b (split 10 s), k)))) e

-- where there are two words, a newline byte stands behind the first
pub line-inside : (s : Text) → 1 < length (words_of s) → line_length s < length s
line-inside s h =
    bool_cases (ltb (line_length s) (length s)) (λ e. ltb-true _ _ e)
    (λ e. absurd (omega (arith, h, ap length (words-one s (omega (arith, line-bound s, ltb-false (line_length s) (length s) e))))))

pub behind-at : (s : Text) (at end : ℕ) → end ≡ at + line_length (drop at s) → behind (drop at s) ≡ drop (end + 1) s
behind-at s at end e =
    let same : at + suc (line_length (drop at s)) ≡ end + 1 = omega (arith, e) in
    drop-drop (suc (line_length (drop at s))) at s ∙ ap (λ (n : ℕ). drop n s) same
