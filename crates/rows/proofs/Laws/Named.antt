-- Named in docs/DESIGN-PASS.md. No contract cites it. Assumes nothing.
use Prim.Native.Nat.{ℕ, ◌%◌}
use mathlib.Core.Path.{◌≡◌, ap}
use mathlib.Core.Bool.{Bool, ◌&&◌, and-true}
use lib.Dec.{eqb, leb}
use Rattle.sheet.specs.Limits.{names_limit}
use Rattle.sheet.specs.Lengths.{sheet_lengths}

-- the lengths of the two buffers apart
pub lengths-apart : (rows names : ℕ) → sheet_lengths rows 0 && leb names names_limit ≡ sheet_lengths rows names
unfolding sheet_lengths
lengths-apart rows names = ap (λ (b : Bool). b && leb names names_limit) (and-true (eqb (rows % 10) 0 && leb 20 rows && leb rows 40960))
