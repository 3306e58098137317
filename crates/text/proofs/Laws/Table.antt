-- A rule of a table, proved at all of its places by one test that antt computes; and a part of a list. Assumes nothing.
use mathlib.Core.Path.{◌≡◌, ap, ◌∙◌}
use mathlib.Core.Bool.{Bool, true, ◌&&◌}
use mathlib.Core.Logic.{⊎_elim}
use mathlib.Core.List.{List, [], ◌∷◌}
use Prim.Native.Nat.{ℕ, zero, suc, ◌+◌, ◌-◌, ◌≤◌, ◌<◌}
use native.Mathlib.Omega.{arith}
use native.Mathlib.Nat.{sub-zero, suc-sub-suc, le_of_suc-le-suc, not-suc-le-zero, eq-or-lt_of_le, le_of_eq}
use lib.ListN.{length, take, drop, length-drop}
use lib.Seq.{slice, take-nil, take_all}
use Rattle.text.proofs.Laws.Tests.{and-true-left, and-true-right}

-- the test passes at each place below n
abbrev pub passes : (ℕ → Bool) → ℕ → Bool
passes f zero = true
passes f (suc n) = f n && passes f n

pub at : (f : ℕ → Bool) (n : ℕ) → passes f n ≡ true → (k : ℕ) → k < n → f k ≡ true
at f zero e k h = absurd (not-suc-le-zero h)
at f (suc n) e k h =
    ⊎_elim
    (λ s. ap f s ∙ and-true-left (f n) (passes f n) e)
    (λ l. at f n (and-true-right (f n) (passes f n) e) k l)
    (eq-or-lt_of_le (le_of_suc-le-suc h))

-- a part as the code takes it, and as a slice
pub part_slice : (f t : ℕ) (l : List ℕ) → f ≤ t → take (t - f) (drop f l) ≡ slice f t l
part_slice zero t l h = rw (sub-zero t)
part_slice (suc f) zero l h = absurd (not-suc-le-zero h)
part_slice (suc f) (suc t) [] h = take-nil {A = ℕ} (suc t - suc f)
part_slice (suc f) (suc t) (x ∷ l) h = rw (suc-sub-suc t f) (part_slice f t l (le_of_suc-le-suc h))

-- the part of a list from place i on
pub part-from : (s : List ℕ) (i : ℕ) → take (length s - i) (drop i s) ≡ drop i s
part-from s i = take_all _ (drop i s) (le_of_eq (length-drop i s))

-- as many elements behind a place as asked for
pub cut_inside : (l : List ℕ) (at size : ℕ) → take (at + size - at) (drop at l) ≡ take size (drop at l)
cut_inside l at size = let e : at + size - at ≡ size = omega arith in rw e
