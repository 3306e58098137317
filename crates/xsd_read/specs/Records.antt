-- What reading the records of a piece does to a sheet that holds a state's rows.
--     stopped_at     a reading that stops with a refusal
--     RecordsRead   the answer and the state reached are the definition's, for every state whose rows the sheet held
use Rattle.std.specs.Prelude.{ℕ, ◌≡◌, List, Err}
use Rattle.text.specs.Text.{Text}
use Rattle.sheet.specs.declared.refusal.Refusal.{Refusal}
use Rattle.rows.specs.Answers.{answer_of}
use Rattle.rows.specs.declared.writer.SheetWriter.{SheetWriter}
use Rattle.rows.specs.Writer.{SameBuffers}
use Rattle.xsd_types.specs.State.{State}
use Rattle.xsd_parser.specs.Read.{Reading, read_state}
use Rattle.xsd_progress.specs.declared.Progress.{Progress}
use Rattle.xsd_progress.specs.Progress.{At, lent_to}
use Rattle.xsd_read.specs.declared.records.ReadTo.{ReadTo}

abbrev pub stopped_at : Refusal → ℕ → Progress → ReadTo
stopped_at r place p = record { answer = Err (record { refusal = r; place = place }); progress = p }

pub record Reached (w : SheetWriter) (x : Reading) (r : ReadTo) : Type 0 where
  pub answer : answer_of r.answer ≡ x.answer
  pub at : At x.state w r.progress

pub record RecordsRead (w : SheetWriter) (text : Text) (marks : List ℕ) (p : Progress) (r : ReadTo) (w' : SheetWriter) : Type 0 where
  pub same : SameBuffers w w'
  pub reached : (s : State) → At s w p → Reached w' (read_state (lent_to w.rows.now w.names.now) s text marks) r
