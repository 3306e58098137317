-- A number's digits stored from the last to the first (the crate `xsd_written`, specs/Decimal.antt). Assumes nothing.
use Prim.Native.Nat.{ℕ, zero, suc, ◌+◌, ◌-◌, ◌/◌, ◌%◌, ◌^◌, ◌<◌, ◌≤◌}
use native.Mathlib.Omega.{arith}
use native.Mathlib.Nat.{div-lt_iff_lt-mul, pow-suc}
use mathlib.Core.Path.{◌≡◌, refl, sym, ◌∙◌}
use mathlib.Core.List.{List, [], ◌∷◌, ◌++◌, append_assoc}
use lib.Dec.{lit<}
use lib.ListN.{length, drop, set, length-set}
use lib.Seq.{drop-cons, drop-set-lt, get_or-set_same}
use borrow.Author.Tests.{le-ltb, lt-ltb}
use Rattle.xsd_written.specs.Decimal.{decimal_up}

-- a digit stored in front of those behind it
stored : (l : List ℕ) (i v : ℕ) → i < length l → drop i (set l i v) ≡ v ∷ drop (suc i) l
stored l i v h =
    let k : i < length (set l i v) = omega (arith, length-set l i v) in
    drop-cons (set l i v) i 0 k ∙ rw (get_or-set_same l i v 0 h, drop-set-lt (suc i) l i v (omega arith))

-- more than one digit is to be written only where there is room for two
pub spell-some : (at rest : ℕ) → 10 ≤ rest → rest < 10 ^ suc at → 1 ≤ at
spell-some zero rest h k = absurd (omega (arith, h, k))
spell-some (suc at) rest h k = omega arith

pub spell-tenth : (at rest : ℕ) → 1 ≤ at → rest < 10 ^ suc at → rest / 10 < 10 ^ suc (at - 1)
spell-tenth zero rest h k = absurd (omega arith)
spell-tenth (suc at) rest h k =
    let e : suc at - 1 ≡ at = omega arith in
    rw e ((div-lt_iff_lt-mul (lit< tt)).1 (rw pow-suc at k))

pub spell-step : (at rest : ℕ) (l : List ℕ) → 10 ≤ rest → 1 ≤ at → at < length l
    → decimal_up (at - 1) (rest / 10) ++ drop (suc (at - 1)) (set l at (48 + rest % 10)) ≡ decimal_up at rest ++ drop (suc at) l
unfolding decimal_up
spell-step zero rest l h s w = absurd (omega arith)
spell-step (suc at) rest l h s w =
    let e : suc at - 1 ≡ at = omega arith in
    rw (e, stored l (suc at) (48 + rest % 10) w, le-ltb rest 10 h) (sym (append_assoc (decimal_up at (rest / 10)) ((48 + rest % 10) ∷ []) (drop (suc (suc at)) l)))

last-digit : (at rest : ℕ) → rest < 10 → decimal_up at rest ≡ (48 + rest) ∷ []
unfolding decimal_up
last-digit zero rest h = refl
last-digit (suc at) rest h = rw (lt-ltb rest 10 h)

pub spell_last : (at rest : ℕ) (l : List ℕ) → rest < 10 → at < length l → drop at (set l at (48 + rest)) ≡ decimal_up at rest ++ drop (suc at) l
spell_last at rest l h w = rw (stored l at (48 + rest) w, last-digit at rest h)
