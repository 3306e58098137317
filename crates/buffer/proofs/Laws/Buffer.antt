-- A buffer of n numbers with zeros behind its used part, `filled n xs`: a store behind the used part adds to it, and zeros over the end of the used part
-- cut it. Both replace a part in the middle (`paste-at`). Assumes nothing.
use Prim.Native.Nat.{ℕ, ◌+◌, ◌-◌, ◌≤◌}
use mathlib.Core.Path.{◌≡◌, sym, ap, ◌∙◌}
use mathlib.Core.List.{List, ◌++◌, append_assoc}
use native.Mathlib.Omega.{arith}
use lib.ListN.{length, take, drop, replicate, length-append, length-replicate, replicate-append-replicate}
use lib.Seq.{paste, take_at, drop_at, take_all}
use Rattle.sheet.specs.Rows.{filled}
use Rattle.sheet.proofs.Laws.Numbers.{length-filled}

abbrev pub zeros : ℕ → List ℕ
zeros n = replicate n 0

-- a part that is replaced by one as long
pub paste-at : (p q r s : List ℕ) (at n : ℕ) → length p ≡ at → length q ≡ n → length s ≡ n → paste (p ++ q ++ r) at s n ≡ p ++ s ++ r
paste-at p q r s at n ep eq es =
    let front : take at (p ++ q ++ r) ≡ p = rw append_assoc (take_at p (q ++ r) at ep) in
    let middle : take n s ≡ s = take_all n s (omega arith) in
    let back : drop (at + n) (p ++ q ++ r) ≡ r = drop_at (p ++ q) r (at + n) (simp length-append (omega arith)) in
    rw (front, middle, back)

-- what a buffer holds fits into it
pub filled-fits : (d xs : List ℕ) → d ≡ filled (length d) xs → length xs ≤ length d
unfolding filled
filled-fits d xs e = omega (arith, simp (length-append, length-replicate) at (ap length e))

-- the buffer's own length for n
pub filled-own : (n : ℕ) (d xs : List ℕ) → length xs ≤ n → d ≡ filled n xs → d ≡ filled (length d) xs
filled-own n d xs h e = e ∙ ap (λ (k : ℕ). filled k xs) (sym (ap length e ∙ length-filled n xs h))

-- the zeros behind the used part, taken apart
pub filled-split : (n m : ℕ) (xs ys : List ℕ) → length ys ≡ m → length xs + m ≤ n → filled n xs ≡ xs ++ zeros m ++ zeros (n - length (xs ++ ys))
unfolding filled
filled-split n m xs ys e h =
    let count : n - length xs ≡ m + (n - length (xs ++ ys)) = simp length-append (omega arith) in
    rw (count, ← replicate-append-replicate {A = ℕ} m (n - length (xs ++ ys)) 0, append_assoc)

pub filled-append : (n : ℕ) (xs ys : List ℕ) (at m : ℕ) → length xs ≡ at → length ys ≡ m → at + m ≤ n → paste (filled n xs) at ys m ≡ filled n (xs ++ ys)
unfolding filled
filled-append n xs ys at m ex ey h =
    ap (λ (l : List ℕ). paste l at ys m) (filled-split n m xs ys ey (omega arith))
    ∙ paste-at xs (zeros m) (zeros (n - length (xs ++ ys))) ys at m ex (length-replicate m 0) ey

pub filled-cut : (n : ℕ) (xs ys : List ℕ) (at m : ℕ) → length xs ≡ at → length ys ≡ m → at + m ≤ n → paste (filled n (xs ++ ys)) at (zeros m) m ≡ filled n xs
unfolding filled
filled-cut n xs ys at m ex ey h =
    paste-at xs ys (zeros (n - length (xs ++ ys))) (zeros m) at m ex ey (length-replicate m 0)
    ∙ sym (filled-split n m xs ys ey (omega arith))
