-- A part that moves one number a turn: towards the front by a copy whose first number goes first (`moved_down`), towards the end by one whose last number goes first, which has
-- moved all but the first k (`Moving`). What is still to be read has not been written. Assumes nothing.
--     Copying    d is d₀ with the first j numbers of s stored from the place `at`
--     Moving     d is d₀ with all but the first k numbers of s stored from the place `to`
use mathlib.Core.Path.{◌≡◌, refl, sym, ap, ◌∙◌}
use mathlib.Core.List.{List, [], ◌∷◌, ◌++◌, append_assoc, append-nil}
use Prim.Native.Nat.{ℕ, suc, ◌+◌, ◌≤◌, ◌<◌}
use native.Mathlib.Nat.{add-suc, add-zero}
use native.Mathlib.Omega.{arith}
use native.Mathlib.Numerals.{add-one}
use lib.ListN.{length, get_or, set, take, drop, length-set, take-append-drop}
use lib.Seq.{paste, paste-zero, paste-suc, length-take-le, take-suc, drop-cons, set_at, take-length, drop-length}
use Rattle.buffer.proofs.Laws.Around.{get_d-behind, get_d-before, get_d_part, length_part}

pub record Copying (d₀ : List ℕ) (at : ℕ) (s : List ℕ) (j : ℕ) (d : List ℕ) : Type 0 where
  pub is : d ≡ paste d₀ at s j
  pub long : length d ≡ length d₀

pub copying-start : (d : List ℕ) (at : ℕ) (s : List ℕ) → Copying d at s 0 d
copying-start d at s = record { is = paste-zero d at s; long = refl }

pub copying-more : {d₀ : List ℕ} {at : ℕ} {s : List ℕ} {j : ℕ} {d : List ℕ} → Copying d₀ at s j d → at + j < length d₀ → j < length s → Copying d₀ at s (j + 1) (set d (at + j) (get_or s j 0))
copying-more {d₀} {at} {s} {j} {d} w room more =
    record {
      is = ap (λ (l : List ℕ). set l (at + j) (get_or s j 0)) w.is ∙ rw (add-one j) (paste-suc d₀ at s j 0 room more);
      long = length-set d (at + j) (get_or s j 0) ∙ w.long;
    }

pub copying-end : {d₀ : List ℕ} {at : ℕ} {s : List ℕ} {j : ℕ} {d : List ℕ} (n : ℕ) → Copying d₀ at s j d → j ≡ n → d ≡ paste d₀ at s n
copying-end n w e = rw (← e) w.is

-- what a turn towards the front reads
pub read_down : {d₀ d : List ℕ} {to from n k : ℕ} → Copying d₀ to (take n (drop from d₀)) k d → to ≤ from → from + n ≤ length d₀ → k < n → get_or d (from + k) 0 ≡ get_or (take n (drop from d₀)) k 0
read_down {d₀} {d} {to} {from} {n} {k} w down room more =
    let s = take n (drop from d₀) in
    let long = length_part d₀ from n room in
    ap (λ (l : List ℕ). get_or l (from + k) 0) w.is ∙ get_d-behind d₀ s to k (from + k) (omega arith) (omega arith) (omega arith) ∙ sym (get_d_part d₀ from n k more)

pub moved_down : {d₀ d : List ℕ} {to from n k : ℕ} → Copying d₀ to (take n (drop from d₀)) k d → to ≤ from → from + n ≤ length d₀ → k < n
    → Copying d₀ to (take n (drop from d₀)) (k + 1) (set d (to + k) (get_or d (from + k) 0))
moved_down {d₀} {d} {to} {from} {n} {k} w down room more =
    let long = length_part d₀ from n room in
    rw (read_down {d = d} w down room more) (copying-more w (omega arith) (omega arith))

pub record Moving (d₀ : List ℕ) (to : ℕ) (s : List ℕ) (k : ℕ) (d : List ℕ) : Type 0 where
  pub is : d ≡ take (to + k) d₀ ++ drop k s ++ drop (to + length s) d₀
  pub long : length d ≡ length d₀

pub moving-start : (d : List ℕ) (to : ℕ) (s : List ℕ) (n : ℕ) → length s ≡ n → Moving d to s n d
moving-start d to s n e =
    record { is = rw (← e, drop-length s, append-nil) (sym (take-append-drop (to + length s) d)); long = refl }

-- one store more, at the end of what is not moved yet
pub moving-store : (d₀ s : List ℕ) (to j : ℕ) → to + length s ≤ length d₀ → j < length s
    → set (take (to + suc j) d₀ ++ drop (suc j) s ++ drop (to + length s) d₀) (to + j) (get_or s j 0) ≡ take (to + j) d₀ ++ drop j s ++ drop (to + length s) d₀
moving-store d₀ s to j room more =
    let p = take (to + j) d₀ in
    let rest = drop (to + length s) d₀ in
    rw (
      add-suc to j,
      take-suc d₀ (to + j) 0 (omega arith),
      drop-cons s j 0 more,
      append_assoc p (get_or d₀ (to + j) 0 ∷ []) (drop (suc j) s),
      append_assoc p ((get_or d₀ (to + j) 0 ∷ []) ++ drop (suc j) s) rest,
    )
    (set_at p (get_or d₀ (to + j) 0) (drop (suc j) s ++ rest) (get_or s j 0) (to + j) (length-take-le (to + j) d₀ (omega arith))
    ∙ sym (append_assoc p (get_or s j 0 ∷ drop (suc j) s) rest))

-- what a turn towards the end reads
pub read_up : {d₀ d : List ℕ} {to from n : ℕ} (j : ℕ) → Moving d₀ to (take n (drop from d₀)) (suc j) d → from ≤ to
    → to + n ≤ length d₀ → j < n → get_or d (from + j) 0 ≡ get_or (take n (drop from d₀)) j 0
read_up {d₀} {d} {to} {from} {n} j w up room more =
    let s = take n (drop from d₀) in
    ap (λ (l : List ℕ). get_or l (from + j) 0) w.is ∙ get_d-before d₀ (drop (suc j) s) (drop (to + length s) d₀) (to + suc j) (from + j) (omega arith) (omega arith) ∙ sym (get_d_part d₀ from n j more)

pub moved_up : {d₀ d : List ℕ} {to from n : ℕ} (j : ℕ) → Moving d₀ to (take n (drop from d₀)) (suc j) d → from ≤ to → to + n ≤ length d₀ → j < n
    → Moving d₀ to (take n (drop from d₀)) j (set d (to + j) (get_or d (from + j) 0))
moved_up {d₀} {d} {to} {from} {n} j w up room more =
    let s = take n (drop from d₀) in
    let long = length_part d₀ from n (omega arith) in
    record {
      is = rw (read_up {d = d} j w up room more) (ap (λ (l : List ℕ). set l (to + j) (get_or s j 0)) w.is ∙ moving-store d₀ s to j (omega arith) (omega arith));
      long = length-set d (to + j) (get_or d (from + j) 0) ∙ w.long;
    }

pub moving-end : {d₀ d s : List ℕ} {to k : ℕ} (n : ℕ) → Moving d₀ to s k d → k ≡ 0 → length s ≡ n → d ≡ paste d₀ to s n
moving-end {d₀} {d} {s} {to} n w e long = rw (← long, take-length s) (rw (e, add-zero) at w.is)
