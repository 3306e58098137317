-- Zeros that `fill` stores into a part of a buffer, from a up to e: they replace it. Assumes nothing.
use Prim.Native.Nat.{ℕ, ◌+◌, ◌-◌, ◌≤◌}
use mathlib.Core.Path.{◌≡◌, ap, sym, ◌∙◌}
use mathlib.Core.List.{List, ◌++◌}
use native.Mathlib.Omega.{arith}
use lib.ListN.{length, take, drop, length-replicate}
use lib.Seq.{paste, take_all, length-take-le}
use borrow.Rule.Slice.PartMut.{put_mid}
use Rattle.std.specs.List.{between}
use Rattle.std.proofs.lemmas.Slice.{put_mid-paste}
use Rattle.std.proofs.lemmas.List.Edits.{length-between}
use Rattle.buffer.proofs.Laws.Buffer.{zeros}

pub part-zeroed : (a e : ℕ) (xs ys : List ℕ) → a ≤ e → e ≤ length xs → ys ≡ zeros (length (between a e xs)) → put_mid a (e - a) xs ys ≡ paste xs a (zeros (e - a)) (e - a)
part-zeroed a e xs ys h fits z =
    let long : length (between a e xs) ≡ e - a = length-between xs a e fits in
    put_mid-paste a (e - a) xs ys (zeros (e - a)) (e - a) (z ∙ ap zeros long) (omega arith) (sym (length-replicate (e - a) 0))

-- the same of its first n numbers
pub front-zeroed : (n : ℕ) (xs ys : List ℕ) → n ≤ length xs → ys ≡ zeros (length (take n xs)) → ys ++ drop n xs ≡ paste xs 0 (zeros n) n
front-zeroed n xs ys fits z =
    let long : length (take n xs) ≡ n = length-take-le n xs fits in
    let all : take n (zeros n) ≡ zeros n = take_all n (zeros n) (omega (arith, length-replicate {A = ℕ} n 0)) in
    let end : 0 + n ≡ n = omega arith in
    rw end (ap (λ (l : List ℕ). l ++ drop n xs) (z ∙ ap zeros long ∙ sym all))
