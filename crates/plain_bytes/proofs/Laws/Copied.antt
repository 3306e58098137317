-- A part of a buffer that is copied into (std's `put_mid`): behind bytes that are copied, it makes more of them copied, and at the end all. Assumes nothing.
use Prim.Native.Nat.{ℕ, ◌+◌, ◌≤◌}
use native.Mathlib.Omega.{arith}
use mathlib.Core.Path.{◌≡◌, sym, ap, ap₂, ◌∙◌}
use mathlib.Core.List.{List, [], ◌++◌, append-nil}
use lib.ListN.{length, take, drop, length-take, length-drop, take-append-drop, drop_of_length-le}
use lib.Seq.{take-add, take_all}
use Rattle.std.proofs.lemmas.List.{take-take}
use Rattle.std.proofs.lemmas.Slice.{take-put_mid}
use borrow.Rule.Slice.PartMut.{put_mid}

pub copied-more : (out bytes ys : List ℕ) (a k n : ℕ) → take a out ≡ take a bytes → ys ≡ take k (drop a bytes) → a + k ≤ length bytes → a ≤ length out → n ≡ a + k
    → take n (put_mid a k out ys) ≡ take n bytes
copied-more out bytes ys a k n front e fits room h =
    let long : length ys ≡ k = ap length e ∙ omega (arith, length-take k (drop a bytes), length-drop a bytes) in
    take-put_mid a k out ys n (omega arith) room
    ∙ ap₂ (λ (x y : List ℕ). x ++ y) front e
    ∙ sym (take-add a k bytes)
    ∙ ap (λ (m : ℕ). take m bytes) (sym h)

take-less : (m a : ℕ) (xs ys : List ℕ) → a ≤ m → take m xs ≡ take m ys → take a xs ≡ take a ys
take-less m a xs ys h e = sym (take-take a m xs h) ∙ ap (take a) e ∙ take-take a m ys h

pub copied-all : (out bytes ys : List ℕ) (m a j k : ℕ) → take m out ≡ take m bytes → a ≤ m → ys ≡ take j (drop a bytes) → length bytes ≤ a + j → length out ≤ a + k
    → put_mid a k out ys ≡ bytes
copied-all out bytes ys m a j k front h e long end =
    let none : drop k (drop a out) ≡ [] = drop_of_length-le (drop a out) (omega (arith, length-drop a out)) in
    let whole = e ∙ take_all j (drop a bytes) (omega (arith, length-drop a bytes)) in
    rw (none, append-nil, whole, take-less m a out bytes h front) (take-append-drop a bytes)
