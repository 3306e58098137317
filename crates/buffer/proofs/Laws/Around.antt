-- What stands before and behind a part that is replaced is as it was. No contract cites them. Assumes nothing.
use Prim.Native.Nat.{ℕ, ◌+◌, ◌-◌, ◌≤◌, ◌<◌}
use mathlib.Core.Path.{◌≡◌, sym, ap, ◌∙◌}
use mathlib.Core.List.{List, ◌++◌, append_assoc}
use native.Mathlib.Omega.{arith}
use lib.ListN.{length, get_or, take, drop, length-drop, get_or-append}
use lib.Seq.{paste, length-take-le, get_or-take, get_or-drop, drop-paste}

pub get_d-behind : (d s : List ℕ) (at n i : ℕ) → at ≤ length d → n ≤ length s → at + n ≤ i → get_or (paste d at s n) i 0 ≡ get_or d i 0
get_d-behind d s at n i hd hs h =
    let m = i - (at + n) in
    let e : i ≡ at + n + m = omega arith in
    rw e (sym (get_or-drop (at + n) (paste d at s n) m 0) ∙ ap (λ (l : List ℕ). get_or l m 0) (drop-paste d at s n hd hs) ∙ get_or-drop (at + n) d m 0)

-- what stands before a part is as it was
pub get_d-before : (d x y : List ℕ) (n i : ℕ) → n ≤ length d → i < n → get_or (take n d ++ x ++ y) i 0 ≡ get_or d i 0
get_d-before d x y n i hd h =
    let inside : i < length (take n d) = rw (length-take-le n d hd) h in
    rw append_assoc (get_or-append (take n d) (x ++ y) 0 i inside ∙ get_or-take n d i 0 h)

-- the numbers of a part, and how many they are
pub get_d_part : (d : List ℕ) (from n k : ℕ) → k < n → get_or (take n (drop from d)) k 0 ≡ get_or d (from + k) 0
get_d_part d from n k h = get_or-take n (drop from d) k 0 h ∙ get_or-drop from d k 0

pub length_part : (d : List ℕ) (from n : ℕ) → from + n ≤ length d → length (take n (drop from d)) ≡ n
length_part d from n h = length-take-le n (drop from d) (simp length-drop (omega arith))
