-- Named in docs/DESIGN-PASS.md. No contract cites them. Assumes nothing.
use Prim.Native.Nat.{ℕ, ◌≤◌}
use mathlib.Core.Path.{◌≡◌, refl, ap}
use mathlib.Core.Bool.{true}
use native.Mathlib.Omega.{arith}
use lib.ListN.{length}
use Rattle.text.specs.Text.{between}
use Rattle.sheet.specs.Rows.{Sheet}
use Rattle.sheet.specs.Lengths.{sheet_lengths}
use Rattle.xsd_types.specs.Good.{used_pairs}
use Rattle.xsd_types.specs.Count.{with_count, bare, good}
use Rattle.xsd_types.specs.Convert.{converted, convert}
use Rattle.xsd_types.proofs.Laws.Convert.{same_count, good-convertible}

pub bare-names : (x : Sheet) → (bare x).names ≡ x.names
unfolding bare with_count
bare-names x = refl

-- a good sheet, with lengths as the paper has them, is taken by the conversion, and stays
pub convert-taken : (x : Sheet) → sheet_lengths (length x.rows) (length x.names) ≡ true → good x ≡ true → convert x ≡ converted 0 x
unfolding convert
convert-taken x l g = rw (l, good-convertible x g) (ap (converted 0) (same_count x g))

-- a simple type's head uses two pairs
pub used-simple : (a : ℕ) → 2 ≤ used_pairs 3 a
unfolding used_pairs between
used-simple a = omega arith
