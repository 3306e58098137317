-- A list of so many words, each ended by a newline byte, is a word and a list of one less. Assumes nothing.
use Prim.Native.Nat.{ℕ, suc, ◌+◌, ◌-◌, ◌≤◌, ◌<◌}
use mathlib.Core.Path.{◌≡◌, refl, sym, ap, ◌∙◌}
use mathlib.Core.Bool.{Bool, false, ◌&&◌}
use mathlib.Core.List.{List, [], ◌∷◌}
use native.Mathlib.Omega.{arith}
use lib.Dec.{eqb, eqb-suc-suc, leb, ltb}
use lib.ListN.{length, get_or, drop, length-drop}
use borrow.Author.Tests.{ne_eqb, eq-eqb, leb-true, leb-false, ltb-true, ltb-false}
use Rattle.text.specs.Text.{Text}
use Rattle.text.proofs.Laws.Tests.{bool_cases}
use Rattle.ir_types.specs.Label.{words_of, good_words}
use Rattle.ir_label.specs.Lines.{line_length}
use Rattle.ir_label.proofs.Laws.Lines.{behind, behind-at, words-on, words-one, words-some, line-bound}

-- n words, each ended by a newline byte, and nothing after
unfoldable pub ended : ℕ → List Text → Bool
ended n ws = eqb (length ws) (suc n) && eqb (length (get_or ws n [])) 0

ended-on : (n : ℕ) (w : Text) (ws : List Text) → ended (suc n) (w ∷ ws) ≡ ended n ws
unfolding ended
ended-on n w ws = rw (eqb-suc-suc (length ws) (suc n))

ended-short : (n : ℕ) (w : Text) → ended (suc n) (w ∷ []) ≡ false
unfolding ended
ended-short n w = rw (ne_eqb 1 (suc (suc n)) (λ e. omega (arith, e)))

ended-none : (w : Text) (ws : List Text) → 0 < length ws → ended 0 (w ∷ ws) ≡ false
unfolding ended
ended-none w ws h = rw (ne_eqb (suc (length ws)) 1 (λ e. omega (arith, e, h)))

unfoldable pub good_from : ℕ → Text → Bool
good_from n s = ended n (words_of s)

pub good-five : (s : Text) → good_from 5 s ≡ good_words s
unfolding good_from ended good_words
good-five s = refl

good-on : (n : ℕ) (s : Text) → line_length s < length s → good_from (suc n) s ≡ good_from n (behind s)
unfolding good_from
good-on n s h = ap (ended (suc n)) (words-on s h) ∙ ended-on n _ _

good-short : (n : ℕ) (s : Text) → length s ≤ line_length s → good_from (suc n) s ≡ false
unfolding good_from
good-short n s h = ap (ended (suc n)) (words-one s (omega (arith, h, line-bound s))) ∙ ended-short n s

-- from a place on, where the word there ends at `end`
pub good-next : (n : ℕ) (s : Text) (at end : ℕ) → 0 < n → end ≡ at + line_length (drop at s) → end < length s → good_from n (drop at s) ≡ good_from (n - 1) (drop (end + 1) s)
good-next n s at end p e h =
    ap (λ (m : ℕ). good_from m (drop at s)) (omega (arith, p)) ∙ good-on (n - 1) (drop at s) (omega (arith, length-drop at s, e, h)) ∙ ap (good_from (n - 1)) (behind-at s at end e)

pub good-stop : (n : ℕ) (s : Text) (at end : ℕ) → 0 < n → end ≡ at + line_length (drop at s) → length s ≤ end → good_from n (drop at s) ≡ false
good-stop n s at end p e h =
    ap (λ (m : ℕ). good_from m (drop at s)) (omega (arith, p)) ∙ good-short (n - 1) (drop at s) (omega (arith, length-drop at s, e, h))

-- where no word is left, nothing is
good_none : (s : Text) → line_length s < length s → good_from 0 s ≡ false
unfolding good_from
good_none s h = ap (ended 0) (words-on s h) ∙ ended-none (get_or (words_of s) 0 []) (words_of (behind s)) (words-some (behind s))

none_left : (s : Text) → good_from 0 s ≡ eqb (length s) 0
unfolding good_from ended
none_left s =
    bool_cases (ltb (line_length s) (length s))
    (λ e. good_none s (ltb-true _ _ e) ∙ sym (ne_eqb (length s) 0 (λ z. omega (arith, z, ltb-true (line_length s) (length s) e))))
    (λ e. ap (ended 0) (words-one s (omega (arith, line-bound s, ltb-false (line_length s) (length s) e))))

pub good-end : (s : Text) (at : ℕ) → good_from 0 (drop at s) ≡ leb (length s) at
good-end s at =
    none_left (drop at s) ∙ ap (λ (n : ℕ). eqb n 0) (length-drop at s) ∙
    bool_cases (leb (length s) at) (λ e. eq-eqb (length s - at) 0 (omega (arith, leb-true (length s) at e)) ∙ sym e)
    (λ e. ne_eqb (length s - at) 0 (λ z. omega (arith, z, leb-false (length s) at e)) ∙ sym e)
