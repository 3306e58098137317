-- An action done to a sheet.
--     ActRoom       the sheet is one that the action of an outcome can be done to, and the rows after it have room
--     Done          the sheet holds the rows after the action
--     content_numbers    the numbers of the head of another content, c given
use Rattle.std.specs.Prelude.{ℕ, ◌+◌, ◌≡◌, true, List, length}
use Rattle.text.specs.Text.{Text}
use Rattle.sheet.specs.Rows.{Row, names_of}
use Rattle.sheet.specs.Lengths.{fits}
use Rattle.xsd_parser.specs.Handlers.{Outcome, ok}
use Rattle.rows.specs.declared.numbers.RowNumbers.{RowNumbers}
use Rattle.rows.specs.declared.writer.SheetWriter.{SheetWriter}
use Rattle.rows.specs.Writer.{SameBuffers, Held}
use Rattle.xsd_actions.specs.declared.NewContent.{NewContent}
use Rattle.xsd_actions.specs.Actions.{Action, Fitting}
use Rattle.xsd_act.specs.Ready.{Ready, rows_after_all}

pub record ActRoom (w : SheetWriter) (head : ℕ) (o : Outcome Action) : Type 0 where
  pub z : List ℕ
  pub namespace : Text
  pub done : List Row
  pub last : List Row
  pub action : Action
  pub ready : Ready w.rows.now w.names.now w.used head z namespace done last
  pub decided : o ≡ ok action
  pub fitting : Fitting action last
  pub room : fits (1 + length (rows_after_all action namespace done last)) (length (names_of (rows_after_all action namespace done last))) (length w.rows.now) (length w.names.now) ≡ true

pub record Done (w : SheetWriter) (head : ℕ) (o : Outcome Action) (w' : SheetWriter) : Type 0 where
  pub same : SameBuffers w w'
  pub holds : (z : List ℕ) (namespace : Text) (done last : List Row) (a : Action) → Ready w.rows.now w.names.now w.used head z namespace done last
      → o ≡ ok a → Fitting a last → Held w' z (rows_after_all a namespace done last)

abbrev pub content_numbers : NewContent → ℕ → RowNumbers
content_numbers n c = record { tag = n.tag; a = n.a; b = 0; c = c }
