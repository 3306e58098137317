-- A text in the middle of a buffer, replaced: what is behind it moves, what is freed at the end is zero, and the new text is stored. The part that moves
-- and the zeros are one store (`paste-paste`). Assumes nothing.
use Prim.Native.Nat.{ℕ, zero, suc, ◌+◌, ◌-◌, ◌≤◌}
use mathlib.Core.Path.{◌≡◌, refl, sym, ap, ◌∙◌}
use mathlib.Core.List.{List, ◌++◌, append_assoc}
use native.Mathlib.Omega.{arith}
use lib.ListN.{length, take, drop, length-append, length-drop, length-replicate, replicate-append-replicate}
use lib.Seq.{paste, take_at, drop_at, take_all, take-add, length-take-le, drop-append-add}
use Rattle.sheet.specs.Rows.{filled}
use Rattle.buffer.proofs.Laws.Copy.{paste-paste}
use Rattle.buffer.proofs.Laws.Buffer.{zeros, paste-at}

pub drop-zeros : (m n : ℕ) → drop m (zeros n) ≡ zeros (n - m)
drop-zeros zero n = let e : n ≡ n - 0 = omega arith in ap zeros e
drop-zeros (suc m) zero = let e : 0 ≡ 0 - suc m = omega arith in ap zeros e
drop-zeros (suc m) (suc n) = let e : n - m ≡ suc n - suc m = omega arith in drop-zeros m n ∙ ap zeros e

-- behind the used part there are zeros
pub drop-filled : (n k : ℕ) (xs : List ℕ) → length xs ≤ k → drop k (filled n xs) ≡ zeros (n - k)
unfolding filled
drop-filled n k xs h =
    let m = k - length xs in
    let e : k ≡ length xs + m = omega arith in
    let count : n - length xs - m ≡ n - k = omega arith in
    ap (λ (i : ℕ). drop i (xs ++ zeros (n - length xs))) e ∙ drop-append-add xs (zeros (n - length xs)) m ∙ drop-zeros m (n - length xs) ∙ ap zeros count

-- the part behind the text
pub part-behind : (n : ℕ) (p q r : List ℕ) (from count : ℕ) → length p + length q ≡ from → length r ≡ count → take count (drop from (filled n (p ++ q ++ r))) ≡ r
unfolding filled
part-behind n p q r from count e f =
    let z = zeros (n - length (p ++ q ++ r)) in
    rw (append_assoc (p ++ q) r z, drop_at (p ++ q) (r ++ z) from (length-append p q ∙ e)) (take_at r z count f)

-- the zeros behind what moved, and those that stood behind the used part
pub zeros-behind : (n : ℕ) (xs r : List ℕ) (to m : ℕ) → to + length r ≤ n → length xs ≤ n → m ≡ length xs - (to + length r)
    → r ++ zeros m ++ drop (to + (length r + m)) (filled n xs) ≡ r ++ zeros (n - (to + length r))
zeros-behind n xs r to m room fits count =
    let end = to + (length r + m) in
    let sum : m + (n - end) ≡ n - (to + length r) = omega arith in
    rw (drop-filled n end xs (omega arith), append_assoc r (zeros m) (zeros (n - end)), replicate-append-replicate {A = ℕ} m (n - end) 0, sum)

-- that part moved, and zeros behind it
pub moved-cleared : (n : ℕ) (xs r : List ℕ) (to m : ℕ) {d d₁ d₂ : List ℕ} → d ≡ filled n xs → length d ≡ n → length xs ≤ n → to + length r ≤ n → m ≡ length xs - (to + length r)
    → d₁ ≡ paste d to r (length r) → d₂ ≡ paste d₁ (to + length r) (zeros m) m → d₂ ≡ take to d ++ (r ++ zeros (n - (to + length r)))
moved-cleared n xs r to m {d} e long fits room count f g =
    let clear : length (zeros m) ≡ m = length-replicate m 0 in
    let all : take (length r + m) (r ++ zeros m) ≡ r ++ zeros m = take_all (length r + m) (r ++ zeros m) (rw (length-append, clear) (omega arith)) in
    g ∙ ap (λ (l : List ℕ). paste l (to + length r) (zeros m) m) f ∙ rw clear at (paste-paste d r (zeros m) to (rw clear (omega arith)))
    ∙ rw (all, append_assoc (take to d) (r ++ zeros m) (drop (to + (length r + m)) d))
    (ap (λ (l : List ℕ). take to d ++ (r ++ zeros m ++ drop (to + (length r + m)) l)) e
    ∙ ap (λ (l : List ℕ). take to d ++ l) (zeros-behind n xs r to m room fits count))

-- a text stored before a part, over what stood behind p
pub stored-before : (n : ℕ) (p xs y s : List ℕ) (at : ℕ) {d : List ℕ} → d ≡ filled n (p ++ xs) → length d ≡ n → length p ≡ at → at + length s ≤ n
    → paste (take (at + length s) d ++ y) at s (length s) ≡ p ++ s ++ y
unfolding filled
stored-before n p xs y s at {d} e long place room =
    let front : take at d ≡ p = rw (e, append_assoc p xs (zeros (n - length (p ++ xs)))) (take_at p (xs ++ zeros (n - length (p ++ xs))) at place) in
    let x = take (length s) (drop at d) in
    rw (take-add at (length s) d, front) (paste-at p x y s at (length s) place (length-take-le (length s) (drop at d) (simp length-drop (omega arith))) refl)

-- the whole: the text q between p and r is replaced by s
pub text-replaced : (n : ℕ) (p q r s : List ℕ) (at len used m : ℕ) {d d₁ d₂ d₃ : List ℕ} → d ≡ filled n (p ++ q ++ r) → length d ≡ n → length p ≡ at → length q ≡ len → length (p ++ q ++ r) ≡ used
    → used ≤ n → used - len + length s ≤ n → m ≡ used - (at + length s + (used - (at + len)))
    → d₁ ≡ paste d (at + length s) (drop (at + len) d) (used - (at + len)) → d₂ ≡ paste d₁ (at + length s + (used - (at + len))) (zeros m) m
    → d₃ ≡ paste d₂ at s (length s) → d₃ ≡ filled n (p ++ s ++ r)
unfolding filled
text-replaced n p q r s at len used m {d} {d₁} {d₂} {d₃} e long place size whole fits room freed f g h =
    let bytes = simp length-append at whole in
    let count : length r ≡ used - (at + len) = omega arith in
    let part : take (used - (at + len)) (drop (at + len) d) ≡ r = ap (λ (l : List ℕ). take (used - (at + len)) (drop (at + len) l)) e
    ∙ part-behind n p q r (at + len) (used - (at + len)) (omega arith) count in
    let all : take (used - (at + len)) r ≡ r = take_all (used - (at + len)) r (omega arith) in
    let moved : d₁ ≡ paste d (at + length s) r (used - (at + len)) = f ∙ rw (part, all) in
    let cleared = moved-cleared n (p ++ q ++ r) r (at + length s) m e long (omega arith) (omega arith) (omega arith) (rw (← count) at moved) (rw (← count) at g) in
    let left : n - (at + length s + length r) ≡ n - length (p ++ s ++ r) = simp length-append (omega arith) in
    h ∙ ap (λ (l : List ℕ). paste l at s (length s)) cleared
    ∙ stored-before n p (q ++ r) (r ++ zeros (n - (at + length s + length r))) s at (e ∙ ap (filled n) (append_assoc p q r)) long place (omega arith)
    ∙ rw left (sym (append_assoc (p ++ s) r (zeros (n - length (p ++ s ++ r)))))
