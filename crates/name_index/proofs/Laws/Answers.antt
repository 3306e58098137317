-- What a caller concludes of the place that an index answers: it is above 0, and a row stands there.
-- Assumes nothing.
use Prim.Native.Nat.{ℕ, ◌+◌, ◌*◌, ◌≤◌, ◌<◌}
use mathlib.Core.Path.{sym, ◌∙◌}
use mathlib.Core.Bool.{Bool}
use mathlib.Core.List.{List}
use native.Mathlib.Omega.{arith}
use lib.ListN.{length}
use Rattle.text.specs.Text.{Text}
use Rattle.name_index.specs.Index.{spelled_name_at, places_in, Index}
use Rattle.name_index.proofs.Laws.Places.{Hit, places-length, places-at}

module _ {rows names : List ℕ} {normalised : Bool} {table : List ℕ} {k n : ℕ} {sorted : Bool} (w : Index rows names normalised table k n sorted) where
  pub hit-inside : {t : Text} {r : ℕ} → Hit (spelled_name_at rows names normalised) t (places_in k n table) r → (0 < r) × (10 * r + 10 ≤ length rows)
  hit-inside h =
      let l : h.at < n = omega (arith, places-length k n table w.inside, h.inside) in
      rw (sym h.place ∙ places-at k n table h.at l) (w.placed h.at l)
