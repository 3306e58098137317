-- A text in the middle of a sheet, and the sheet with another text there.
--     Paired        every row uses as many pairs as its tag and its a say
--     Spot          a text of a row, with what stands around it
--     spot_row, spot_rows    the row, and all rows, with a text there
--     TextAt        the sheet holds the rows of a spot, whose row stands at `place`
--     TextRoom      there is such a spot, and a text of so many bytes has room there
--     TextReplaced  the sheet holds the rows of the spot with the new text
use Rattle.std.specs.Prelude.{ℕ, ◌+◌, ◌-◌, ◌≤◌, ◌≡◌, List, [], ◌∷◌, ◌++◌, length}
use Rattle.text.specs.Text.{Text}
use Rattle.sheet.specs.Rows.{Row, row}
use Rattle.rows.specs.declared.numbers.Used.{Used}
use Rattle.rows.specs.declared.writer.SheetWriter.{SheetWriter}
use Rattle.rows.specs.Packing.{Holds}
use Rattle.rows.specs.Writer.{SameBuffers, Held}
use Rattle.xsd_replace.specs.Offsets.{RightPairs}

pub data Paired : List Row → Type 0 where
  none : Paired []
  more : {r : Row} {rs : List Row} → RightPairs r → Paired rs → Paired (r ∷ rs)

pub record Spot : Type 0 where
  pub z : List ℕ
  pub rs : List Row
  pub tag : ℕ
  pub before : List Text
  pub old : Text
  pub behind : List Text
  pub a : ℕ
  pub b : ℕ
  pub c : ℕ
  pub us : List Row

abbrev pub spot_row : Spot → Text → Row
spot_row x text = row x.tag (x.before ++ text ∷ x.behind) x.a x.b x.c

abbrev pub spot_rows : Spot → Text → List Row
spot_rows x text = x.rs ++ spot_row x text ∷ x.us

pub record TextAt (rows names : List ℕ) (used : Used) (place pair : ℕ) (x : Spot) : Type 0 where
  pub holds : Holds rows names used x.z (spot_rows x x.old)
  pub here : place ≡ 1 + length x.rs
  pub there : pair ≡ length x.before
  pub right : RightPairs (spot_row x x.old)
  pub paired : Paired x.us

pub record TextRoom (w : SheetWriter) (place pair new : ℕ) : Type 0 where
  pub spot : Spot
  pub text : TextAt w.rows.now w.names.now w.used place pair spot
  pub room : w.used.names - length spot.old + new ≤ length w.names.now

pub record TextReplaced (w : SheetWriter) (place pair : ℕ) (new : Text) (w' : SheetWriter) : Type 0 where
  pub same : SameBuffers w w'
  pub holds : (x : Spot) → TextAt w.rows.now w.names.now w.used place pair x → Held w' x.z (spot_rows x new)
