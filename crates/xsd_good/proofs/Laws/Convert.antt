-- The conversion by its ways: 1, 2 for the other sentences, 2 for the count, or the count filled in. Assumes nothing.
use Prim.Native.Nat.{ℕ}
use mathlib.Core.Path.{◌≡◌}
use mathlib.Core.Bool.{true, false, ◌||◌}
use mathlib.Core.List.{List}
use lib.Dec.{eqb}
use lib.ListN.{length, get_or, set}
use Rattle.sheet.specs.Lengths.{sheet_lengths}
use Rattle.sheet.specs.Calls.{sheet}
use Rattle.xsd_types.specs.Good.{bare_good}
use Rattle.xsd_types.specs.Count.{count_of, count_in, with_count, bare, state_of}
use Rattle.xsd_types.specs.Convert.{converted, convertible, convert}

module _ (rows names : List ℕ) where
  pub convert-one : sheet_lengths (length rows) (length names) ≡ false → converted 1 (sheet rows names) ≡ convert (sheet rows names)
  unfolding convert
  convert-one l = rw l

  module _ (l : sheet_lengths (length rows) (length names) ≡ true) where
    convert-two : convertible (sheet rows names) ≡ false → converted 2 (sheet rows names) ≡ convert (sheet rows names)
    unfolding convert
    convert-two c = rw (l, c)

    pub convert-bad : bare_good (bare (sheet rows names)) ≡ false → converted 2 (sheet rows names) ≡ convert (sheet rows names)
    unfolding convertible
    convert-bad g = convert-two (rw g)

    module _ (g : bare_good (bare (sheet rows names)) ≡ true) {a b : ℕ} (c : a ≡ get_or rows 17 0) (d : b ≡ count_of (state_of (sheet rows names))) where
      pub convert-wrong : eqb a 0 || eqb a b ≡ false → converted 2 (sheet rows names) ≡ convert (sheet rows names)
      unfolding convertible count_in
      convert-wrong e = convert-two (rw (g, ← c, ← d, e))

      pub convert-fills : eqb a 0 || eqb a b ≡ true → converted 0 (sheet (set rows 17 b) names) ≡ convert (sheet rows names)
      unfolding convert convertible count_in with_count
      convert-fills e = rw (l, g, ← c, ← d, e)
