-- Characters of names of two bytes, by their code points (specs/Answers.antt). Assumes nothing.
use Prim.Native.Nat.{ℕ, ◌+◌, ◌≤◌, ◌<◌}
use Rattle.std.specs.Prelude.{Option, Some, None, MatchOption, unwrap_or}
use mathlib.Core.Path.{◌≡◌, refl, ap, ◌∙◌}
use mathlib.Core.List.{[]}
use mathlib.Core.Bool.{Bool, true, false, ◌&&◌, ◌||◌, and-false, or-false}
use native.Mathlib.Omega.{arith}
use lib.Dec.{eqb, leb}
use lib.ListN.{length, drop}
use borrow.Author.Tests.{ne_eqb, le-leb, lt-leb, leb-true, leb-false}
use Rattle.text.specs.Text.{Text, between, is_tail, is_pair, first}
use Rattle.text.proofs.Laws.Tests.{bool_cases, and-true-left, and-true-right}
use Rattle.text.proofs.Laws.Texts.{between-low, between-high}
use Rattle.xml.specs.Classes.{is_letter, is_name_start, is_name, point_of, is_byte_of, is_pair_of, begins}
use Rattle.xml.specs.Steps.{leading_name}
use Rattle.xml.proofs.Laws.Names.{begins-byte, begins-pair, begins-cases, begins-place, zero-no-start, byte-inside, pair-inside, pair-no-byte, name_of-some, name_of-pair, start-is-name}
use Rattle.xml_parts.specs.Answers.{point_by, start_width}

-- the four bounds of a character of two bytes
pub pair-bounds : (l t : ℕ) → is_pair l t ≡ true → (194 ≤ l) × (l ≤ 197) × (128 ≤ t) × (t ≤ 191)
unfolding is_pair is_tail
pair-bounds l t e =
    let h = and-true-left (between 194 197 l) (is_tail t) e in
    let k = and-true-right (between 194 197 l) (is_tail t) e in
    (between-low 194 197 l h, between-high 194 197 l h, between-low 128 191 t k, between-high 128 191 t k)

pub low-point : (l t : ℕ) → l < 128 → point_by l t ≡ 0
unfolding point_by is_pair between
low-point l t h = rw (lt-leb 194 l (omega arith))

pub point-high : (l t : ℕ) → is_pair l t ≡ true → 128 ≤ point_of l t
unfolding point_of
point-high l t e = omega (arith, pair-bounds l t e)

-- a class of code points from U+0080 on
pub point-class : (p : ℕ → Bool) (l t : ℕ) → leb 128 (point_by l t) && p (point_by l t) ≡ is_pair_of p l t
unfolding point_by is_pair_of
point-class p l t = bool_cases (is_pair l t) (λ e. rw (e, le-leb 128 (point_of l t) (point-high l t e))) (λ e. rw e)

-- the class of a code point, where there is one
pub point-asked : (p : ℕ → Bool) (l t : ℕ) (o : Option ℕ) {r : Bool} → unwrap_or o 0 ≡ point_by l t → MatchOption o (r ≡ false) (λ x. r ≡ (leb 128 x && p x))
    → r ≡ is_pair_of p l t
point-asked p l t None e h = h ∙ ap (λ (x : ℕ). leb 128 x && p x) e ∙ point-class p l t
point-asked p l t (Some x) e h = h ∙ ap (λ (x : ℕ). leb 128 x && p x) e ∙ point-class p l t

-- the names' code points from U+0080 on
pub high-start : (c : ℕ) → leb 128 c && is_name_start c ≡ between 192 214 c || between 216 246 c || between 248 383 c
unfolding is_name_start is_letter between
high-start c =
    bool_cases (leb 128 c)
    (λ h.
    let l = leb-true 128 c h in
    rw (h, ne_eqb c 58 (λ q. omega arith), ne_eqb c 95 (λ q. omega arith), lt-leb c 90 (omega arith), lt-leb c 122 (omega arith), and-false (leb 65 c), and-false (leb 97 c)))
    (λ h. let l = leb-false 128 c h in rw (h, lt-leb 192 c (omega arith), lt-leb 216 c (omega arith), lt-leb 248 c (omega arith)))

pub high-name : (c : ℕ) → leb 128 c && is_name c ≡ (leb 128 c && is_name_start c) || eqb c 183
unfolding is_name between
high-name c =
    bool_cases (leb 128 c)
    (λ h.
    let l = leb-true 128 c h in
    rw (
      h,
      ne_eqb c 45 (λ q. omega arith),
      ne_eqb c 46 (λ q. omega arith),
      lt-leb c 57 (omega arith),
      and-false (leb 48 c),
      or-false (is_name_start c),
      or-false (is_name_start c),
      or-false (is_name_start c),
    ))
    (λ h. let l = leb-false 128 c h in rw (h, ne_eqb c 183 (λ q. omega arith)))

-- ---- the first character of a name

pub nothing-begins : begins is_name_start [] ≡ false
unfolding begins
nothing-begins = refl

-- a byte below 128 that begins a name
pub one-begins : (text : Text) (at : ℕ) → is_byte_of is_name_start (first (drop at text)) ≡ true
    → (begins is_name_start (drop at text) ≡ true) × (1 ≡ start_width (drop at text))
unfolding start_width
one-begins text at e =
    let b : begins is_name_start (drop at text) ≡ true = begins-place is_name_start text at zero-no-start ∙ rw e in
    (b, rw (b, e))

abbrev pub Starts : Text → Type 0
Starts s = (start_width s ≤ length s) × (start_width s + length (leading_name (drop (start_width s) s)) ≡ length (leading_name s))

pub width-some : (s : Text) → begins is_name_start s ≡ true → Starts s
unfolding start_width first
width-some s e =
    begins-cases is_name_start Starts s e
    (λ b u h. rw (begins-byte is_name_start b u h, h, name_of-some b u (byte-inside is_name_start is_name start-is-name b h)) (omega arith, omega arith))
    (λ b t u h.
    rw (begins-pair is_name_start b t u h, pair-no-byte is_name_start is_name_start b t h, name_of-pair b t u (pair-inside is_name_start is_name start-is-name b t h)) (omega arith, omega arith))

pub width-positive : (s : Text) → begins is_name_start s ≡ true → 1 ≤ start_width s
unfolding start_width
width-positive s e = rw e (bool_cases (is_byte_of is_name_start (first s)) (λ k. rw k (omega arith)) (λ k. rw k (omega arith)))
