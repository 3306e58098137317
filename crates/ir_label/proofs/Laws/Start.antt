-- Where a word of the list starts: behind the first word and its newline byte, where it starts in the rest. Assumes nothing.
use Prim.Native.Nat.{ℕ, zero, suc, ◌+◌, ◌-◌, ◌≤◌, ◌<◌}
use mathlib.Core.Path.{◌≡◌, refl, sym, ap, subst, ◌∙◌}
use mathlib.Core.List.{List, []}
use native.Mathlib.Omega.{arith}
use lib.ListN.{length, get_or, drop, length-drop}
use lib.Seq.{drop-drop}
use Rattle.text.specs.Text.{Text}
use Rattle.ir_types.specs.Label.{words_of, word_at}
use Rattle.ir_label.specs.Lines.{line_length}
use Rattle.ir_label.proofs.Laws.Lines.{behind, behind-at, words-on, line-inside}

words-less : (n : ℕ) (s : Text) → suc n < length (words_of s) → n < length (words_of (behind s))
words-less n s h = omega (arith, h, ap length (words-on s (line-inside s (omega (arith, h)))))

start-on : (n : ℕ) (s : Text) → suc n < length (words_of s) → word_at (suc n) (words_of s) ≡ suc (line_length s) + word_at n (words_of (behind s))
unfolding word_at line_length
start-on n s h = ap (word_at (suc n)) (words-on s (line-inside s (omega (arith, h)))) ∙ omega arith

word_on : (n : ℕ) (s : Text) → suc n < length (words_of s) → get_or (words_of s) (suc n) [] ≡ get_or (words_of (behind s)) n []
word_on n s h = ap (λ (ws : List Text). get_or ws (suc n) []) (words-on s (line-inside s (omega (arith, h))))

-- the first word of what is left where a word starts is the word
pub word_line : (n : ℕ) (s : Text) → n < length (words_of s) → line_length (drop (word_at n (words_of s)) s) ≡ length (get_or (words_of s) n [])
unfolding word_at line_length
word_line zero s h = refl
word_line (suc n) s h =
    rw (start-on n s h, word_on n s h) (ap line_length (sym (drop-drop (word_at n (words_of (behind s))) (suc (line_length s)) s)) ∙ word_line n (behind s) (words-less n s h))

-- word n of what is left from a place on, where the word there ends at `end`, is word n - 1 of what is behind it
pub record Next (s : Text) (n at end : ℕ) : Type 0 where
  pub inside : end + 1 ≤ length s
  pub fewer : n - 1 < length (words_of (drop (end + 1) s))
  pub starts : end + 1 + word_at (n - 1) (words_of (drop (end + 1) s)) ≡ at + word_at n (words_of (drop at s))

pub start-next : (s : Text) (n at end : ℕ) → 0 < n → n < length (words_of (drop at s)) → end ≡ at + line_length (drop at s) → Next s n at end
start-next s n at end p h e =
    let t = drop at s in
    let rest = behind-at s at end e in
    let q : n ≡ suc (n - 1) = omega (arith, p) in
    let more : suc (n - 1) < length (words_of t) = omega (arith, p, h) in
    let on = ap (λ (m : ℕ). word_at m (words_of t)) q ∙ start-on (n - 1) t more in
    record {
      inside = omega (arith, e, length-drop at s, line-inside t (omega (arith, p, h)));
      fewer = subst (λ (u : Text). n - 1 < length (words_of u)) rest (words-less (n - 1) t more);
      starts = omega (arith, e, on, ap (λ (u : Text). word_at (n - 1) (words_of u)) rest);
    }
