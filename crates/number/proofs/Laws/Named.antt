-- Named in docs/PORT.md. No contract cites them. Assumes nothing.
use Prim.Native.Nat.{ℕ, ◌≤◌, ◌<◌}
use native.Mathlib.Nat.{not-suc-le-zero}
use mathlib.Core.Path.{◌≡◌, refl}
use mathlib.Core.List.{[], ◌∷◌}
use lib.ListN.{length, drop, drop_of_length-le}
use Rattle.text.specs.Text.{Text, every}
use Rattle.number.specs.Number.{parsed, is_numeral, decimal_value, numeral}
use Rattle.number.proofs.Laws.Numbers.{from, below-within}

pub from_start : (limit : ℕ) (d : Text) → 0 < length d → from limit 0 d ≡ numeral limit d
unfolding from numeral is_numeral
from_start limit [] h = absurd (not-suc-le-zero h)
from_start limit (b ∷ d) h = refl

pub from_end : (limit v : ℕ) (d : Text) (i : ℕ) → length d ≤ i → v < limit → from limit v (drop i d) ≡ parsed v
unfolding from every decimal_value
from_end limit v d i h k = rw (drop_of_length-le d h) (below-within limit v k)
