-- A snake form written byte by byte: one byte of the name, with or without an underscore in front. Assumes nothing.
use Rattle.std.specs.Prelude.{if◌then◌else◌}
use Prim.Native.Nat.{ℕ, ◌+◌, ◌<◌}
use Prim.Native.Char.{code}
use mathlib.Core.Path.{◌≡◌}
use mathlib.Core.Bool.{Bool, true, false}
use mathlib.Core.List.{[], ◌∷◌}
use native.Mathlib.Numerals.{add-one}
use lib.Bits.{bit_or}
use lib.ListN.{length, drop, get_or}
use Rattle.text.specs.Text.{Text, lower_byte, first}
use Rattle.text.specs.Characters.{characters}
use Rattle.names.specs.Names.{starts_word, snake_from}
use Rattle.names.proofs.Laws.Writing.{Writing, writing-as}
use Rattle.names.proofs.Laws.Scans.{both-low, snake-step}

module _ (prev : ℕ) (s : Text) (i : ℕ) {t before out : Text} {n next : ℕ} (w : Writing t before n out (snake_from (prev ∷ []) (characters (drop i s)))) (h : i < length s)
    (low : bit_or (get_or s i 0) next < 128) (behind : next ≡ first (drop (i + 1) s)) where
  step : (starts : Bool) → starts_word (prev ∷ []) (get_or s i 0 ∷ []) (next ∷ []) ≡ starts
      → Writing t before n out (if starts then code "_" ∷ lower_byte (get_or s i 0) ∷ snake_from (get_or s i 0 ∷ []) (characters (drop (i + 1) s))
      else lower_byte (get_or s i 0) ∷ snake_from (get_or s i 0 ∷ []) (characters (drop (i + 1) s)))
  step starts e =
      let f = rw add-one at behind in
      let l = both-low (get_or s i 0) next low in
      rw add-one (writing-as w (snake-step prev s i h l.0 (rw f at l.1) starts (rw f at e)))

  -- where an underscore stands before the byte
  pub marked : starts_word (prev ∷ []) (get_or s i 0 ∷ []) (next ∷ []) ≡ true
      → Writing t before n out (code "_" ∷ lower_byte (get_or s i 0) ∷ snake_from (get_or s i 0 ∷ []) (characters (drop (i + 1) s)))
  marked e = step true e

  -- where none stands there
  pub plain : starts_word (prev ∷ []) (get_or s i 0 ∷ []) (next ∷ []) ≡ false
      → Writing t before n out (lower_byte (get_or s i 0) ∷ snake_from (get_or s i 0 ∷ []) (characters (drop (i + 1) s)))
  plain e = step false e
