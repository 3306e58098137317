-- A conversion of a name whose bytes so far are below 128: what stands at place i decides. Assumes nothing.
use Rattle.std.specs.Prelude.{if◌then◌else◌}
use Prim.Native.Nat.{ℕ, suc, ◌≤◌, ◌<◌}
use Prim.Native.Char.{code}
use mathlib.Core.Path.{◌≡◌, refl, sym, ◌∙◌}
use mathlib.Core.Bool.{Bool, true, false}
use mathlib.Core.List.{List, [], ◌∷◌}
use lib.Bits.{bit_or}
use lib.Dec.{ltb}
use lib.ListN.{length, drop, get_or, drop_of_length-le}
use borrow.Author.Tests.{eq-eqb, ne_eqb, lt-ltb, ltb-true}
use Rattle.text.specs.Text.{Text, between, lower_byte, first}
use Rattle.text.specs.Characters.{characters, is_byte}
use Rattle.std.proofs.lemmas.Bool.{and_parts}
use Rattle.text.proofs.Laws.Bits.{or-small}
use Rattle.names.specs.Cases.{upper_of, lower_of, first_lower, is_upper_char, is_lower_char}
use Rattle.names.specs.Names.{starts_word, snake_from}
use Rattle.names.specs.Scans.{cased, segments}
use Rattle.names.proofs.Laws.Characters.{one-byte, byte-at}

-- ---- bytes below 128

-- the bits of both together are tested
pub both-low : (a b : ℕ) → bit_or a b < 128 → (a < 128) × (b < 128)
both-low a b h =
    let e = and_parts (ltb a 128) (ltb b 128) (sym (or-small a b) ∙ lt-ltb (bit_or a b) 128 h) in
    (ltb-true a 128 e.0, ltb-true b 128 e.1)

-- cased, a byte is one
pub cased-one : (up lowers : Bool) (b : ℕ) → cased up lowers (b ∷ []) ≡ first (cased up lowers (b ∷ [])) ∷ []
unfolding cased upper_of lower_of first
cased-one true lowers b = refl
cased-one false true b = refl
cased-one false false b = refl

-- ---- segments

-- the separator is passed and the next character is the first of its segment; any other byte goes in
module _ (c : ℕ) (lowers up : Bool) (s : Text) (i : ℕ) where
  pub segments-passed : i < length s → get_or s i 0 < 128 → get_or s i 0 ≡ c → segments c lowers up (characters (drop i s)) ≡ segments c lowers true (characters (drop (suc i) s))
  unfolding segments is_byte
  segments-passed h k e = rw (byte-at s i h k, eq-eqb (get_or s i 0) c e)

  pub segments-kept : (x : ℕ) → i < length s → get_or s i 0 < 128 → (get_or s i 0 ≡ c → ⊥) → cased up lowers (get_or s i 0 ∷ []) ≡ x ∷ []
      → segments c lowers up (characters (drop i s)) ≡ x ∷ segments c lowers false (characters (drop (suc i) s))
  unfolding segments is_byte
  segments-kept x h k n e = rw (byte-at s i h k, ne_eqb (get_or s i 0) c n, e)

  pub segments-end : length s ≤ i → segments c lowers up (characters (drop i s)) ≡ []
  unfolding segments characters
  segments-end h = rw (drop_of_length-le s h)

-- ---- the snake form

-- the character behind by its byte, where 0 stands for none
starts-next : (prev c s : Text) → first s < 128 → starts_word prev c (get_or (characters s) 0 []) ≡ starts_word prev c (first s ∷ [])
unfolding starts_word characters first is_lower_char between
starts-next prev c [] h = refl
starts-next prev c (b ∷ s) h = rw (one-byte b s h)

-- the byte 0 in the place of no character
pub snake-start : (cs : List Text) → snake_from (0 ∷ []) cs ≡ snake_from [] cs
unfolding snake_from starts_word is_upper_char is_lower_char between
snake-start [] = refl
snake-start (c ∷ cs) = refl

module _ (prev : ℕ) (s : Text) (i : ℕ) (h : i < length s) (k : get_or s i 0 < 128) (l : first (drop (suc i) s) < 128) where
  -- an underscore stands before the byte where a word starts there
  pub snake-step : (starts : Bool) → starts_word (prev ∷ []) (get_or s i 0 ∷ []) (first (drop (suc i) s) ∷ []) ≡ starts
      → snake_from (prev ∷ []) (characters (drop i s))
      ≡ (if starts then code "_" ∷ lower_byte (get_or s i 0) ∷ snake_from (get_or s i 0 ∷ []) (characters (drop (suc i) s))
      else lower_byte (get_or s i 0) ∷ snake_from (get_or s i 0 ∷ []) (characters (drop (suc i) s)))
  unfolding snake_from first_lower lower_of characters
  snake-step starts e = rw (byte-at s i h k, starts-next (prev ∷ []) (get_or s i 0 ∷ []) (drop (suc i) s) l, e)

pub snake-end : (prev : ℕ) (s : Text) (i : ℕ) → length s ≤ i → snake_from (prev ∷ []) (characters (drop i s)) ≡ []
unfolding snake_from characters
snake-end prev s i h = rw (drop_of_length-le s h)
