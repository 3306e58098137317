-- Texts put one behind the other into a lent buffer, with no count beforehand: past the buffer's end nothing more is stored.
--     Puts          a text was put at an offset, or the offset behind it is past the buffer's end
--     Writes        a writer put a text
--     SpellsDecimal        a number's digits stand in twenty bytes from an offset on, up to the end
--     Going         all is put by a writer from the first on where the rest is put by the one at hand
use Rattle.std.specs.Prelude.{ℕ, ◌+◌, ◌≤◌, ◌<◌, List, ◌≡◌, length, drop}
use Rattle.std.proofs.lemmas.List.Edits.{sets}
use Rattle.text.specs.Text.{Text}
use Rattle.xsd_written.specs.Decimal.{decimal}
use Rattle.xsd_write.specs.declared.put.Writer.{Writer}

pub record Puts (t : Text) (at : ℕ) (before : List ℕ) (r : ℕ) (after : List ℕ) : Type 0 where
  pub kept : length after ≡ length before
  pub fits : at + length t ≤ length before → (r ≡ at + length t) × (after ≡ sets before at t)
  pub past : length before < at + length t → length before < r

-- a text was put behind what a writer had, into the same buffer
pub record Writes (t : Text) (before after : Writer) : Type 0 where
  pub same : after.out.ghost_name ≡ before.out.ghost_name
  pub puts : Puts t before.at before.out.now after.at after.out.now

pub record Going (all : Text) (start : Writer) (rest : Text) (here : Writer) : Type 0 where
  pub on : (after : Writer) → Writes rest here after → Writes all start after

pub record SpellsDecimal (n : ℕ) (digits : List ℕ) (from : ℕ) : Type 0 where
  pub long : length digits ≡ 20
  pub inside : from ≤ 19
  pub is : drop from digits ≡ decimal n
