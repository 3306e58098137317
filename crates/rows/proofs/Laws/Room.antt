-- The room that `fits` and `parts_fit` test, and the lengths of the two buffers apart. Assumes nothing.
use Prim.Native.Nat.{ℕ, ◌*◌, ◌≤◌}
use mathlib.Core.Path.{◌≡◌}
use mathlib.Core.Bool.{true}
use lib.Dec.{leb}
use borrow.Author.Tests.{leb-true}
use Rattle.text.proofs.Laws.Tests.{and-true-left, and-true-right}
use Rattle.sheet.specs.Lengths.{fits}
use Rattle.rows.specs.Lengths.{parts_fit}

pub fits-room : (a b rows names : ℕ) → fits a b rows names ≡ true → (10 * a ≤ rows) × (b ≤ names)
unfolding fits
fits-room a b rows names e =
    (leb-true (10 * a) rows (and-true-left (leb (10 * a) rows) (leb b names) e), leb-true b names (and-true-right (leb (10 * a) rows) (leb b names) e))

-- the used parts lie inside
pub parts-inside : (used names_used rows names : ℕ) → parts_fit used names_used rows names ≡ true → (2 ≤ used) × (10 * used ≤ rows) × (names_used ≤ names)
unfolding parts_fit
parts-inside used names_used rows names e =
    let f = fits-room used names_used rows names (and-true-right (leb 2 used) _ e) in
    (leb-true 2 used (and-true-left (leb 2 used) _ e), f.0, f.1)
