-- A character from U+0080 on that is read by segments.
--     reading_behind  by its segments, behind the first byte of a form
--     Begun         of the character that begins with b, in front of s, cased, x is the first byte; r says how the name is read on, and v is behind the character
use Rattle.std.specs.Prelude.{ℕ, Option, Some, None, ◌≤◌, ◌≡◌, ◌∷◌, Bool, length}
use Rattle.text.specs.Text.{Text}
use Rattle.text.specs.Characters.{characters}
use Rattle.names.specs.Scans.{cased}
use Rattle.names.specs.Short.{form_bytes}
use Rattle.names.specs.declared.characters.Short.{Short}
use Rattle.names.specs.declared.reading.Reading.{Reading}

abbrev pub reading_behind : Option Short → Reading
reading_behind None = Reading.Segments
reading_behind (Some form) = Reading.Form form

pub record Begun (b : ℕ) (s : Text) (up lowers : Bool) (x : ℕ) (r : Reading) (v : Text) : Type 0 where
  pub character : Text
  pub form : Option Short
  pub split : characters (b ∷ s) ≡ character ∷ characters v
  pub cased_is : cased up lowers character ≡ x ∷ form_bytes form
  pub reading : r ≡ reading_behind form
  pub shorter : length v ≤ length s
