-- Named in docs/PORT.md. No contract cites them. Assumes nothing.
use Rattle.std.specs.Prelude.{if◌then◌else◌}
use Prim.Native.Nat.{ℕ}
use mathlib.Core.Path.{◌≡◌, refl, sym}
use mathlib.Core.Bool.{Bool, true, false, ◌||◌, false≢true}
use mathlib.Core.List.{List, ◌∷◌, ◌++◌}

pub no_more : (s c : Bool) (p : ℕ) (xs ys : List ℕ) → s || c ≡ false → (if s then p ∷ xs else xs) ++ (if c then p ∷ ys else ys) ≡ xs ++ ys
no_more true c p xs ys e = absurd (false≢true (sym e))
no_more false true p xs ys e = absurd (false≢true (sym e))
no_more false false p xs ys e = refl
