-- Two texts stored one behind the other are stored as one. Assumes nothing.
use mathlib.Core.Path.{◌≡◌}
use mathlib.Core.List.{List, ◌++◌, append_assoc}
use Prim.Native.Nat.{ℕ, ◌+◌, ◌≤◌}
use native.Mathlib.Nat.{le_refl, add_assoc}
use native.Mathlib.Omega.{arith}
use lib.ListN.{length, take, drop, length-append}
use lib.Seq.{paste, take-paste, drop-paste, drop-drop, take_all, take-length}

pub paste-paste : (d t u : List ℕ) (at : ℕ) → at + (length t + length u) ≤ length d → paste (paste d at t (length t)) (at + length t) u (length u) ≡ paste d at (t ++ u) (length t + length u)
paste-paste d t u at h =
    let front = take-paste d at t (length t) (omega arith) (le_refl (length t)) in
    let end : drop (at + length t) (paste d at t (length t)) ≡ drop (at + length t) d = drop-paste d at t (length t) (omega arith) (le_refl (length t)) in
    let all : take (length t + length u) (t ++ u) ≡ t ++ u = take_all (length t + length u) (t ++ u) (simp length-append (omega arith)) in
    rw (front, ← drop-drop (length u) (at + length t) (paste d at t (length t)), end, drop-drop, all, take-length t, take-length u, add_assoc at (length t) (length u), append_assoc (take at d) t u)
