-- Laws of rows as lists of numbers, and of zeros behind a used part. Assumes nothing.
use mathlib.Core.Path.{◌≡◌, refl, ap, ◌∙◌}
use mathlib.Core.Bool.{Bool, true, ◌&&◌}
use mathlib.Core.List.{List, [], ◌∷◌, ◌++◌}
use Prim.Native.Nat.{ℕ, zero, suc, ◌+◌, ◌-◌, ◌*◌, ◌≤◌}
use native.Mathlib.Omega.{arith}
use lib.Dec.{eqb}
use lib.ListN.{length, take, drop, replicate, length-append, length-drop, length-replicate}
use lib.Seq.{drop-cons, drop_at, take_at, drop-drop}
use borrow.Author.Tests.{eqb-true}
use Rattle.text.specs.Text.{every}
use Rattle.sheet.specs.Rows.{Ten, ten, tens, numbers, filled, all_zero}
use Rattle.text.proofs.Laws.Tests.{and-true-left, and-true-right, and-true}
use Rattle.text.proofs.Laws.Every.{every-get_d, every_drop}

pub ten-numbers : (t : Ten) (ts : List Ten) (z : List ℕ) → ten (numbers (t ∷ ts) ++ z) ≡ t
unfolding ten numbers
ten-numbers t ts z = refl

pub drop-numbers : (t : Ten) (ts : List Ten) (z : List ℕ) → drop 10 (numbers (t ∷ ts) ++ z) ≡ numbers ts ++ z
unfolding numbers
drop-numbers t ts z = refl

pub tens-numbers : (ts : List Ten) (z : List ℕ) → tens (length ts) (numbers ts ++ z) ≡ ts
unfolding tens numbers ten
tens-numbers [] z = refl
tens-numbers (t ∷ ts) z = rw (tens-numbers ts z)

pub length-tens : (n : ℕ) (r : List ℕ) → length (tens n r) ≡ n
unfolding tens
length-tens zero r = refl
length-tens (suc n) r = rw (length-tens n (drop 10 r))

pub length-numbers : (ts : List Ten) → length (numbers ts) ≡ 10 * length ts
unfolding numbers
length-numbers [] = refl
length-numbers (t ∷ ts) = rw (length-numbers ts) (omega arith)

-- the first row of a list of at least ten numbers
pub numbers-ten : (r : List ℕ) → 10 ≤ length r → numbers (ten r ∷ []) ++ drop 10 r ≡ r
unfolding ten numbers
numbers-ten r h =
    rw (
      ← drop-cons r 9 0 (omega arith),
      ← drop-cons r 8 0 (omega arith),
      ← drop-cons r 7 0 (omega arith),
      ← drop-cons r 6 0 (omega arith),
      ← drop-cons r 5 0 (omega arith),
      ← drop-cons r 4 0 (omega arith),
      ← drop-cons r 3 0 (omega arith),
      ← drop-cons r 2 0 (omega arith),
      ← drop-cons r 1 0 (omega arith),
      ← drop-cons r 0 0 (omega arith),
    )

pub numbers-tens : (n : ℕ) (r : List ℕ) → 10 * n ≤ length r → numbers (tens n r) ++ drop (10 * n) r ≡ r
unfolding tens numbers
numbers-tens zero r h = refl
numbers-tens (suc n) r h =
    let long : 10 * n ≤ length (drop 10 r) = rw (length-drop 10 r) (omega arith) in
    let more : 10 * suc n ≡ 10 + 10 * n = omega arith in
    let rest : numbers (tens n (drop 10 r)) ++ drop (10 * suc n) r ≡ drop 10 r = rw (more, ← drop-drop (10 * n) 10 r) (numbers-tens n (drop 10 r) long) in
    ap (λ (l : List ℕ). numbers (ten r ∷ []) ++ l) rest ∙ numbers-ten r (omega arith)

pub all_zero-replicate : (n : ℕ) → all_zero (replicate n 0) ≡ true
unfolding all_zero
all_zero-replicate zero = refl
all_zero-replicate (suc n) = all_zero-replicate n

pub all_zero-all : (xs : List ℕ) → all_zero xs ≡ true → xs ≡ replicate (length xs) 0
unfolding all_zero
all_zero-all [] e = refl
all_zero-all (x ∷ xs) e =
    let h : x ≡ 0 = eqb-true x 0 (and-true-left (eqb x 0) (all_zero xs) e) in
    rw h (ap (λ (l : List ℕ). 0 ∷ l) (all_zero-all xs (and-true-right (eqb x 0) (all_zero xs) e)))

pub length-filled : (n : ℕ) (xs : List ℕ) → length xs ≤ n → length (filled n xs) ≡ n
unfolding filled
length-filled n xs h = rw (length-append xs (replicate (n - length xs) 0), length-replicate {A = ℕ} (n - length xs) 0) (omega arith)

pub take-filled : (n : ℕ) (xs : List ℕ) → take (length xs) (filled n xs) ≡ xs
unfolding filled
take-filled n xs = take_at xs (replicate (n - length xs) 0) (length xs) refl

pub zeros-filled : (n : ℕ) (xs : List ℕ) → all_zero (drop (length xs) (filled n xs)) ≡ true
unfolding filled
zeros-filled n xs = rw (drop_at xs (replicate (n - length xs) 0) (length xs) refl) (all_zero-replicate (n - length xs))

-- a buffer whose used part is p and that has zeros behind it
pub filled-back : (xs p q : List ℕ) → p ++ q ≡ xs → all_zero q ≡ true → filled (length xs) p ≡ xs
unfolding filled
filled-back xs p q e z =
    let left : length xs - length p ≡ length q = omega (arith, simp length-append at (ap length e)) in
    rw (left, ← all_zero-all q z) e

-- every number of a buffer passes the test p, and so do the numbers of its rows
pub every-tens : (p : ℕ → Bool) → p 0 ≡ true → (n : ℕ) (r : List ℕ) → every p r ≡ true → every (λ (t : Ten). p t.a && p t.b) (tens n r) ≡ true
unfolding tens ten every
every-tens p z zero r e = refl
every-tens p z (suc n) r e =
    and-true (and-true (every-get_d p 0 z r 7 e) (every-get_d p 0 z r 8 e)) (every-tens p z n (drop 10 r) (every_drop p 10 r e))

-- rows put together
pub numbers-append : (ts us : List Ten) → numbers (ts ++ us) ≡ numbers ts ++ numbers us
unfolding numbers
numbers-append [] us = refl
numbers-append (t ∷ ts) us = rw (numbers-append ts us)
