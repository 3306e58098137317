-- Named in docs/PORT.md. No contract cites it. Assumes nothing.
use Prim.Native.Nat.{ℕ, ◌≤◌}
use mathlib.Core.Path.{◌≡◌, refl}
use mathlib.Core.List.{List}
use Rattle.xsd_types.specs.Places.{rows_from}
use Rattle.xsd_types.specs.Refused.{refused_place}
use Rattle.xsd_types.proofs.Laws.Places.{rows_from-end}

module _ (rows names : List ℕ) (p end : ℕ) where
  pub refused_end : end ≤ p → 0 ≡ refused_place p (rows_from rows names p end)
  unfolding refused_place
  refused_end h = rw (rows_from-end rows names p end h)
