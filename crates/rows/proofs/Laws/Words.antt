-- Numbers of which each is a u32 are `words`. Assumes nothing.
use Prim.Native.Nat.{ℕ, suc, ◌<◌, ◌^◌}
use mathlib.Core.Path.{◌≡◌, refl}
use mathlib.Core.Bool.{true}
use mathlib.Core.List.{List, [], ◌∷◌}
use lib.ListN.{get_or}
use borrow.Author.Tests.{lt-ltb}
use Rattle.text.specs.Text.{every}
use Rattle.text.proofs.Laws.Tests.{and-true}
use Rattle.sheet.specs.Form.{words}

pub words-each : (xs : List ℕ) → ((i : ℕ) → get_or xs i 0 < 2 ^ 32) → words xs ≡ true
unfolding every
words-each [] h = refl
words-each (x ∷ xs) h = and-true (lt-ltb x (2 ^ 32) (h 0)) (words-each xs (λ i. h (suc i)))
