-- A text is a list of code points in UTF-8 (specs/Utf8.antt): the pairs of bytes are those of the code points, each of which is tried. Assumes nothing.
use Rattle.std.specs.Prelude.{◌/◌, ◌%◌}
use mathlib.Core.Path.{◌≡◌, refl, ◌∙◌}
use mathlib.Core.Bool.{Bool, true, false, ◌&&◌, false≢true}
use mathlib.Core.Logic.{◌↔◌}
use mathlib.Core.List.{List, [], ◌∷◌, map}
use Prim.Native.Nat.{ℕ, ◌+◌, ◌-◌, ◌*◌}
use native.Mathlib.Omega.{arith}
use lib.Dec.{eqb, ltb}
use borrow.Author.Tests.{eqb-true, ne_eqb, ltb-true, ltb-false, le-ltb, lt-ltb}
use Rattle.text.specs.Text.{Text, every, join, same, between, is_plain_byte, is_tail, is_pair, is_graph_pair, text_by, is_text, is_graph_text}
use Rattle.text.specs.Utf8.{utf8, is_point, is_graph_point, SpelledBy}
use Rattle.std.proofs.lemmas.Bool.{and_parts}
use Rattle.text.proofs.Laws.Tests.{and-true-left, and-true-right, and-true as both, or_four, bool_cases}
use Rattle.text.proofs.Laws.Texts.{between-low, between-high, same-eq}
use Rattle.text.proofs.Laws.Every.{every_map}
use Rattle.text.proofs.Laws.Table.{passes, at}
use Rattle.text.proofs.Laws.Pairs.{by-join}

-- ---- by any rule on pairs and on code points that say the same

module _ (pair : ℕ → ℕ → Bool) (point : ℕ → Bool) (low : (b : ℕ) → ltb b 128 ≡ true → point b ≡ true) where
  of-points : ((c : ℕ) → point c ≡ true → text_by pair 0 (utf8 c) ≡ true) → (cs : List ℕ) → every point cs ≡ true → text_by pair 0 (join (map utf8 cs)) ≡ true
  of-points spelled cs e = by-join pair (map utf8 cs) (every_map point (text_by pair 0) utf8 spelled cs e)

  -- a byte below 128 before a text
  plain-first : (b : ℕ) (s : Text) → ltb b 128 ≡ true → SpelledBy point s → SpelledBy point (b ∷ s)
  unfolding every join utf8
  plain-first b s h (cs, p, q) = (b ∷ cs, both (low b h) p, rw (h, q))

  module _ (read : (l t : ℕ) → pair l t ≡ true → (c : ℕ) × (point c ≡ true) × (utf8 c ≡ l ∷ t ∷ [])) where
    pair-first : (b t : ℕ) (s : Text) → pair b t ≡ true → SpelledBy point s → SpelledBy point (b ∷ t ∷ s)
    unfolding every join
    pair-first b t s h (cs, p, q) = let (c, x, y) = read b t h in (c ∷ cs, both x p, rw (y, q))

    to-points : (s : Text) → text_by pair 0 s ≡ true → SpelledBy point s
    unfolding every join text_by is_plain_byte
    to-points [] e = ([], refl, refl)
    to-points (b ∷ []) e =
        bool_cases (ltb b 128) (λ h. plain-first b [] h ([], refl, refl)) (λ h. absurd (false≢true (rw (h, no-zero b h) at e)))
      where
        no-zero : (b : ℕ) → ltb b 128 ≡ false → eqb b 0 ≡ false
        no-zero b h = ne_eqb b 0 (λ w. omega (arith, w, ltb-false b 128 h))
    to-points (b ∷ t ∷ s) e =
        bool_cases (ltb b 128) (λ h. plain-first b (t ∷ s) h (to-points (t ∷ s) (rw h at e)))
        (λ h. let zero : eqb b 0 ≡ false = ne_eqb b 0 (λ w. omega (arith, w, ltb-false b 128 h)) in
        let (x, y) = and_parts (pair b t) (text_by pair 0 s) (rw (h, zero) at e) in pair-first b t s x (to-points s y))

  -- the bytes of a code point, where those of two bytes are a pair
  one-point : ((c : ℕ) → point c ≡ true → ltb c 128 ≡ false → pair (192 + c / 64) (128 + c % 64) ≡ true) → (c : ℕ) → point c ≡ true → text_by pair 0 (utf8 c) ≡ true
  unfolding text_by utf8 is_plain_byte
  one-point pairs c e =
      bool_cases (ltb c 128) (λ h. rw (h, h) refl)
      (λ h. rw (h, le-ltb (192 + c / 64) 128 (omega arith), ne_eqb (192 + c / 64) 0 (λ w. omega (arith, w)), pairs c e h))

-- ---- the code points, tried

low-point : (b : ℕ) → ltb b 128 ≡ true → is_point b ≡ true
unfolding is_point
low-point b h = lt-ltb b 384 (omega (arith, ltb-true b 128 h))

-- the pair whose bytes are 194 + i and 128 + j
pair-test : ℕ → ℕ → Bool
pair-test i j = let c = (2 + i) * 64 + j in same (utf8 c) ((194 + i) ∷ (128 + j) ∷ []) && is_point c

pairs-tried : passes (λ i. passes (pair-test i) 64) 4 ≡ true
unfolding pair-test same utf8 is_point
pairs-tried = refl

points-tried : passes (λ i. is_pair (192 + (128 + i) / 64) (128 + (128 + i) % 64)) 256 ≡ true
unfolding is_pair between is_tail
points-tried = refl

-- ---- texts of a sheet

pair-point : (l t : ℕ) → is_pair l t ≡ true → (c : ℕ) × (is_point c ≡ true) × (utf8 c ≡ l ∷ t ∷ [])
unfolding is_pair is_tail pair-test
pair-point l t e =
    let h = and-true-left (between 194 197 l) (is_tail t) e in
    let k = and-true-right (between 194 197 l) (is_tail t) e in
    let i = l - 194 in
    let j = t - 128 in
    let tried = at (pair-test i) 64 (at (λ n. passes (pair-test n) 64) 4 pairs-tried i (omega (arith, between-low 194 197 l h, between-high 194 197 l h))) j
    (omega (arith, between-low 128 191 t k, between-high 128 191 t k)) in
    let c = (2 + i) * 64 + j in
    let (x, y) = and_parts (same (utf8 c) ((194 + i) ∷ (128 + j) ∷ [])) (is_point c) tried in
    let lead : 194 + i ≡ l = omega (arith, between-low 194 197 l h) in
    let tail : 128 + j ≡ t = omega (arith, between-low 128 191 t k) in
    (c, y, same-eq (utf8 c) ((194 + i) ∷ (128 + j) ∷ []) x ∙ rw (lead, tail))

point-pair : (c : ℕ) → is_point c ≡ true → ltb c 128 ≡ false → is_pair (192 + c / 64) (128 + c % 64) ≡ true
unfolding is_point
point-pair c e h =
    let tried = at (λ i. is_pair (192 + (128 + i) / 64) (128 + (128 + i) % 64)) 256 points-tried (c - 128) (omega (arith, ltb-true c 384 e, ltb-false c 128 h)) in
    let same : 128 + (c - 128) ≡ c = omega (arith, ltb-false c 128 h) in
    rw same at tried

-- a text is a list of code points up to U+017F in UTF-8
pub text-exactly : (s : Text) → (is_text s ≡ true) ↔ SpelledBy is_point s
unfolding is_text
text-exactly s = (to-points is_pair is_point low-point pair-point s, λ (cs, p, q). rw q (of-points is_pair is_point low-point (one-point is_pair is_point low-point point-pair) cs p))

-- ---- texts of a graph

low-graph-point : (b : ℕ) → ltb b 128 ≡ true → is_graph_point b ≡ true
unfolding is_graph_point
low-graph-point b h = rw (low-point b h)

graph-pair-point : (l t : ℕ) → is_graph_pair l t ≡ true → (c : ℕ) × (is_graph_point c ≡ true) × (utf8 c ≡ l ∷ t ∷ [])
unfolding is_graph_pair is_graph_point utf8 is_point
graph-pair-point l t e =
    or_four (is_pair l t) (eqb l 202 && eqb t 188) (eqb l 204 && eqb t 135) (eqb l 206 && eqb t 156) e
    (λ w. let (c, x, y) = pair-point l t w in (c, rw x, y))
    (λ w. let (x, y) = and_parts (eqb l 202) (eqb t 188) w in (700, refl, rw (eqb-true l 202 x, eqb-true t 188 y)))
    (λ w. let (x, y) = and_parts (eqb l 204) (eqb t 135) w in (775, refl, rw (eqb-true l 204 x, eqb-true t 135 y)))
    (λ w. let (x, y) = and_parts (eqb l 206) (eqb t 156) w in (924, refl, rw (eqb-true l 206 x, eqb-true t 156 y)))

point-graph-pair : (c : ℕ) → is_graph_point c ≡ true → ltb c 128 ≡ false → is_graph_pair (192 + c / 64) (128 + c % 64) ≡ true
unfolding is_graph_point is_graph_pair is_pair between
point-graph-pair c e h =
    or_four (is_point c) (eqb c 700) (eqb c 775) (eqb c 924) e
    (λ w. rw (point-pair c w h))
    (λ w. rw (eqb-true c 700 w) refl)
    (λ w. rw (eqb-true c 775 w) refl)
    (λ w. rw (eqb-true c 924 w) refl)

pub graph-text-exactly : (s : Text) → (is_graph_text s ≡ true) ↔ SpelledBy is_graph_point s
unfolding is_graph_text
graph-text-exactly s = (
  to-points is_graph_pair is_graph_point low-graph-point graph-pair-point s,
  λ (cs, p, q). rw q (of-points is_graph_pair is_graph_point low-graph-point (one-point is_graph_pair is_graph_point low-graph-point point-graph-pair) cs p),
)
