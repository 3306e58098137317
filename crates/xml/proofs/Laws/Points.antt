-- The code points of a text in UTF-8, and that [2] Char may be asked of its bytes. Assumes nothing.
use Prim.Native.Nat.{ℕ, ◌≤◌}
use mathlib.Core.Path.{◌≡◌, refl, ap}
use mathlib.Core.Bool.{true, ◌&&◌, ◌||◌, or-true}
use mathlib.Core.List.{List, [], ◌∷◌}
use native.Mathlib.Omega.{arith}
use lib.Dec.{eqb}
use borrow.Author.Tests.{le-leb}
use Rattle.std.specs.Prelude.{if◌then◌else◌}
use Rattle.text.specs.Text.{Text, every, between, is_tail, is_pair}
use Rattle.text.proofs.Laws.Tests.{bool_cases, and-true-left, and-true-right}
use Rattle.text.proofs.Laws.Texts.{between-low, between-high}
use Rattle.xml.specs.Classes.{is_char, point_of}

unfoldable pub points : Text → List ℕ
points [] = []
points (b ∷ []) = b ∷ []
points (b ∷ t ∷ s) = if is_pair b t then point_of b t ∷ points s else b ∷ points (t ∷ s)

high-char : (c : ℕ) → 128 ≤ c → c ≤ 383 → is_char c ≡ true
unfolding is_char between
high-char c l h = rw (le-leb 32 c (omega arith), le-leb c 55295 (omega arith), or-true (eqb c 9 || eqb c 10 || eqb c 13))

-- the bytes of a character, and its code point
pair-chars : (b t : ℕ) → is_pair b t ≡ true → (is_char b ≡ true) × (is_char t ≡ true) × (is_char (point_of b t) ≡ true)
unfolding is_pair is_tail point_of
pair-chars b t e =
    let h = and-true-left (between 194 197 b) (is_tail t) e in
    let k = and-true-right (between 194 197 b) (is_tail t) e in
    let l = between-low 194 197 b h in
    let u = between-high 194 197 b h in
    let x = between-low 128 191 t k in
    let y = between-high 128 191 t k in
    (high-char b (omega arith) (omega arith), high-char t x (omega arith), high-char (point_of b t) (omega arith) (omega arith))

pub char-points : (s : Text) → every is_char (points s) ≡ every is_char s
unfolding points every
char-points [] = refl
char-points (b ∷ []) = refl
char-points (b ∷ t ∷ s) =
    bool_cases (is_pair b t)
    (λ e. let (x, y, z) = pair-chars b t e in rw (e, x, y, z) (char-points s))
    (λ e. rw e (ap (λ k. is_char b && k) (char-points (t ∷ s))))
