-- Laws of rows read from numbers, ten numbers to a row. Assumes nothing.
use Rattle.std.specs.List.{list_all, range_with_len}
use mathlib.Core.Path.{◌≡◌, refl, ap, ◌∙◌}
use mathlib.Core.Bool.{Bool, ◌&&◌}
use mathlib.Core.List.{List, [], ◌∷◌}
use Prim.Native.Nat.{ℕ, zero, suc, ◌+◌, ◌-◌, ◌*◌, ◌≤◌, ◌<◌}
use native.Mathlib.Nat.{not-suc-le-zero}
use native.Mathlib.Numerals.{sub-one}
use native.Mathlib.Omega.{arith}
use lib.ListN.{drop}
use lib.Seq.{drop-drop}
use Rattle.text.specs.Text.{every}
use Rattle.sheet.specs.Rows.{Ten, ten, tens}

pub tens-none : (n : ℕ) (s : List ℕ) → n ≤ 0 → tens n s ≡ []
unfolding tens
tens-none zero s h = refl
tens-none (suc n) s h = absurd (not-suc-le-zero h)

pub tens-more : (n at : ℕ) (s : List ℕ) → 0 < n → tens n (drop at s) ≡ ten (drop at s) ∷ tens (n - 1) (drop (at + 10) s)
unfolding tens
tens-more zero at s h = absurd (not-suc-le-zero h)
tens-more (suc n) at s h = rw (sub-one, drop-drop 10 at s)

pub tens-two : (n : ℕ) (s : List ℕ) → 2 ≤ n → tens (n - 1) (drop 10 s) ≡ ten (drop 10 s) ∷ tens (n - 2) (drop 20 s)
tens-two n s h =
    let e : n - 1 - 1 ≡ n - 2 = omega arith in
    tens-more (n - 1) 10 s (omega arith) ∙ rw e

-- a test of the rows at places i, i + 1, ..
pub tens-all : (p : Ten → Bool) (s : List ℕ) (n i : ℕ) → list_all (λ (k : ℕ). p (ten (drop (10 * k) s))) (range_with_len i n) ≡ every p (tens n (drop (10 * i) s))
unfolding every tens
tens-all p s zero i = refl
tens-all p s (suc n) i =
    let at : 10 * (i + 1) ≡ 10 * i + 10 = omega arith in
    ap (λ (b : Bool). p (ten (drop (10 * i) s)) && b) (tens-all p s n (i + 1) ∙ rw (at, drop-drop 10 (10 * i) s))

-- the row at a place, and those behind it
pub tens-turn : (place end : ℕ) (s : List ℕ) {t : Ten} → place < end → t ≡ ten (drop (10 * place) s)
    → t ∷ tens (end - (place + 1)) (drop (10 * (place + 1)) s) ≡ tens (end - place) (drop (10 * place) s)
tens-turn place end s h e =
    let less : end - place - 1 ≡ end - (place + 1) = omega arith in
    let on : 10 * place + 10 ≡ 10 * (place + 1) = omega arith in
    rw (tens-more (end - place) (10 * place) s (omega arith), e, less, on)
