-- A name that is read byte by byte: what is left of it before a character and behind it. Assumes nothing.
use Rattle.std.specs.Prelude.{Option, Some, None}
use Rattle.std.specs.Iterator.{MakesProgress, item_count}
use mathlib.Core.Path.{◌≡◌, refl, ap}
use mathlib.Core.Bool.{Bool, true, false}
use mathlib.Core.List.{[], ◌∷◌, ◌++◌}
use Prim.Native.Nat.{ℕ, ◌≤◌, ◌<◌}
use borrow.Author.Tests.{eq-eqb, ne_eqb}
use Prim.Native.Char.{code}
use native.Mathlib.Omega.{arith}
use lib.ListN.{length, get_or}
use Rattle.text.specs.Text.{Text}
use Rattle.text.specs.Characters.{characters, is_byte}
use Rattle.names.specs.Cases.{first_lower}
use Rattle.names.specs.Names.{starts_word, snake_from}
use Rattle.names.specs.Scans.{cased, segments}
use Rattle.names.specs.declared.characters.Short.{Short}
use Rattle.names.specs.declared.reading.Reading.{Reading}
use Rattle.names.specs.Short.{form_bytes}
use Rattle.names.specs.Begun.{reading_behind}
use Rattle.names.specs.Same.{form_left, rest_left}
use Rattle.names.proofs.Laws.Characters.{one-byte, high-other}

-- a byte that was given is left no more
pub fewer : {S : Type 0} (left : S → Text) {s t : S} {b : ℕ} → left s ≡ b ∷ left t → MakesProgress {S = S} {A = ℕ} (λ _. Unit {0}) (item_count left) s (Some b) t
fewer left e = record { on = λ _. (tt, tt, omega (arith, ap length e)); keeps = tt; rests = λ _. tt }

-- ---- by segments

left-behind : (form : Option Short) (separator : ℕ) (lowers up : Bool) (s : Text)
    → form_left (reading_behind form) ++ rest_left (reading_behind form) separator lowers up s ≡ form_bytes form ++ segments separator lowers up (characters s)
left-behind None separator lowers up s = refl
left-behind (Some form) separator lowers up s = refl

module _ (reading : Reading) (separator : ℕ) (lowers up : Bool) (s : Text) (parted : reading ≡ Reading.Segments) where
  pub nothing-left : s ≡ [] → form_left reading ++ rest_left reading separator lowers up s ≡ []
  unfolding segments characters
  nothing-left e = rw (parted, e)

  module _ (low : separator < 128) (b : ℕ) (u : Text) (split : s ≡ b ∷ u) where
    pub separator-passed : b ≡ separator → form_left reading ++ rest_left reading separator lowers up s ≡ form_left reading ++ rest_left reading separator lowers true u
    unfolding segments is_byte
    separator-passed e = let h : b < 128 = omega arith in rw (parted, split, one-byte b u h, eq-eqb b separator e)

    pub byte-kept : (x : ℕ) → b < 128 → (b ≡ separator → ⊥) → cased up lowers (b ∷ []) ≡ x ∷ []
        → form_left reading ++ rest_left reading separator lowers up s ≡ x ∷ (form_left reading ++ rest_left reading separator lowers false u)
    unfolding segments is_byte
    byte-kept x h n e = rw (parted, split, one-byte b u h, ne_eqb b separator n, e)

    pub character-kept : (c v : Text) (x : ℕ) (form : Option Short) → 128 ≤ b → characters (b ∷ u) ≡ c ∷ characters v → cased up lowers c ≡ x ∷ form_bytes form
        → form_left reading ++ rest_left reading separator lowers up s ≡ x ∷ (form_left (reading_behind form) ++ rest_left (reading_behind form) separator lowers false v)
    unfolding segments
    character-kept c v x form h d e =
        rw (left-behind form separator lowers false v, parted, split, d, high-other b separator u c (characters v) h low d, e)

-- ---- a snake form

module _ (form : Option Short) (prev s : Text) (none : form ≡ None) where
  pub nothing-snake : s ≡ [] → form_bytes form ++ snake_from prev (characters s) ≡ []
  unfolding snake_from characters
  nothing-snake e = rw (none, e)

  module _ (c r : Text) (split : characters s ≡ c ∷ characters r) where
    pub underscore-first : starts_word prev c (get_or (characters r) 0 []) ≡ true
        → form_bytes form ++ snake_from prev (characters s) ≡ code "_" ∷ (first_lower c ++ snake_from c (characters r))
    unfolding snake_from
    underscore-first e = rw (none, split, e)

    pub character-first : (b : ℕ) (x : Text) → starts_word prev c (get_or (characters r) 0 []) ≡ false → first_lower c ≡ b ∷ x
        → form_bytes form ++ snake_from prev (characters s) ≡ b ∷ (x ++ snake_from c (characters r))
    unfolding snake_from
    character-first b x e k = rw (none, split, e, k)
