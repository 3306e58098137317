-- Laws of the stores of a tape's numbers. Assumes nothing.
use Prim.Native.Nat.{ℕ, suc, ◌+◌, ◌-◌, ◌<◌}
use mathlib.Core.Path.{◌≡◌, refl, ap, ◌∙◌}
use mathlib.Core.List.{List, [], ◌∷◌, ◌++◌}
use native.Mathlib.Omega.{arith}
use lib.ListN.{length, set}
use lib.Seq.{sets, set_comm}

-- four stores one behind the other
pub put_four : (m : List ℕ) (at k size quote end : ℕ)
    → set (set (set (set m at k) (at + 1) size) (at + 2) (quote + 1)) (at + 2 + 1) (end - (quote + 1)) ≡ sets m at (k ∷ size ∷ suc quote ∷ (end - suc quote) ∷ [])
put_four m at k size quote end =
    let one : at + 1 ≡ suc at = omega arith in
    let two : at + 2 ≡ suc (suc at) = omega arith in
    let three : at + 2 + 1 ≡ suc (suc (suc at)) = omega arith in
    let q : quote + 1 ≡ suc quote = omega arith in
    rw (three, two, one, q)

-- stores in two runs
pub sets-append : (m : List ℕ) (at : ℕ) (xs ys : List ℕ) → sets m at (xs ++ ys) ≡ sets (sets m at xs) (at + length xs) ys
sets-append m at [] ys = ap (λ (k : ℕ). sets m k ys) (omega arith)
sets-append m at (x ∷ xs) ys = sets-append (set m at x) (suc at) xs ys ∙ ap (λ (k : ℕ). sets (sets (set m at x) (suc at) xs) k ys) (omega arith)

-- a store in front of a run may come before it or behind it
pub set-sets : (m : List ℕ) (i at v : ℕ) (xs : List ℕ) → i < at → set (sets m at xs) i v ≡ sets (set m i v) at xs
set-sets m i at v [] h = refl
set-sets m i at v (x ∷ xs) h =
    set-sets (set m at x) i (suc at) v xs (omega arith)
    ∙ ap (λ (l : List ℕ). sets l (suc at) xs) (set_comm m at i x v (λ (e : at ≡ i). omega arith))

-- the numbers of a tag's attributes are stored before its first four
pub put-tag : (m : List ℕ) (used k c o z : ℕ) (ys : List ℕ) → set (set (set (set (sets m (used + 4) ys) used k) (used + 1) c) (used + 2) o) (used + 2 + 1) z ≡ sets m used (k ∷ c ∷ o ∷ z ∷ ys)
put-tag m used k c o z ys =
    let one : used + 1 ≡ suc used = omega arith in
    let two : used + 2 ≡ suc (suc used) = omega arith in
    let three : used + 2 + 1 ≡ suc (suc (suc used)) = omega arith in
    let four : used + 4 ≡ suc (suc (suc (suc used))) = omega arith in
    rw (three, two, one, four)
    (ap (λ (l : List ℕ). set (set (set l (suc used) c) (suc (suc used)) o) (suc (suc (suc used))) z) (set-sets m used (suc (suc (suc (suc used)))) k ys (omega arith))
    ∙ ap (λ (l : List ℕ). set (set l (suc (suc used)) o) (suc (suc (suc used))) z) (set-sets (set m used k) (suc used) (suc (suc (suc (suc used)))) c ys (omega arith))
    ∙ ap (λ (l : List ℕ). set l (suc (suc (suc used))) z) (set-sets (set (set m used k) (suc used) c) (suc (suc used)) (suc (suc (suc (suc used)))) o ys (omega arith))
    ∙ set-sets (set (set (set m used k) (suc used) c) (suc (suc used)) o) (suc (suc (suc used))) (suc (suc (suc (suc used)))) z ys (omega arith))
