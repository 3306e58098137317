-- A row of a sheet with others behind it, and the sheet where it is replaced by one that is the last.
--     HeadAt        row `place` of the sheet stands behind rs and has name for its first text
--     HeadRoom      there is such a row, and so many bytes have room behind its name
--     HeadReplaced  that row has other numbers and other texts behind its name, and is the last
use Rattle.std.specs.Prelude.{ℕ, ◌+◌, ◌≤◌, ◌≡◌, List, [], ◌∷◌, ◌++◌, length}
use Rattle.text.specs.Text.{Text}
use Rattle.sheet.specs.Rows.{Row, row, names_of}
use Rattle.rows.specs.declared.numbers.Used.{Used}
use Rattle.rows.specs.declared.numbers.RowNumbers.{RowNumbers}
use Rattle.rows.specs.declared.writer.SheetWriter.{SheetWriter}
use Rattle.rows.specs.Packing.{Holds}
use Rattle.rows.specs.Writer.{SameBuffers, Held}

pub record HeadAt (rows names : List ℕ) (used : Used) (place : ℕ) (z : List ℕ) (rs : List Row) (name : Text) : Type 0 where
  pub tag : ℕ
  pub more : List Text
  pub a : ℕ
  pub b : ℕ
  pub c : ℕ
  pub kids : List Row
  pub here : place ≡ 1 + length rs
  pub holds : Holds rows names used z (rs ++ row tag (name ∷ more) a b c ∷ kids)

pub record HeadRoom (w : SheetWriter) (place more : ℕ) : Type 0 where
  pub z : List ℕ
  pub rs : List Row
  pub name : Text
  pub head : HeadAt w.rows.now w.names.now w.used place z rs name
  pub room : length (names_of rs) + (length name + more) ≤ length w.names.now

pub record HeadReplaced (w : SheetWriter) (place : ℕ) (n : RowNumbers) (more : List Text) (w' : SheetWriter) : Type 0 where
  pub same : SameBuffers w w'
  pub holds : (z : List ℕ) (rs : List Row) (name : Text) → HeadAt w.rows.now w.names.now w.used place z rs name → Held w' z (rs ++ row n.tag (name ∷ more) n.a n.b n.c ∷ [])
