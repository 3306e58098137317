-- One event on a sheet that holds a state's rows.
--     EventRoom     the sheet holds the rows of a state, and the event's texts may stand in it
--     EventTaken    the answer for every such state is that of `step`
use Rattle.std.specs.Prelude.{◌≡◌, true, Result}
use Rattle.sheet.specs.declared.refusal.Refusal.{Refusal}
use Rattle.rows.specs.declared.writer.SheetWriter.{SheetWriter}
use Rattle.rows.specs.Writer.{SameBuffers}
use Rattle.xsd_types.specs.State.{State}
use Rattle.xsd_parser.specs.Event.{Event}
use Rattle.xsd_parser.specs.EventText.{event_ok}
use Rattle.xsd_parser.specs.Step.{step}
use Rattle.xsd_progress.specs.declared.Progress.{Progress}
use Rattle.xsd_progress.specs.Progress.{At, lent_to, Standing}
use Rattle.xsd_read.specs.Due.{EventEnded}

pub record EventRoom (w : SheetWriter) (p : Progress) (e : Event) : Type 0 where
  pub standing : Standing w p
  pub texts : event_ok e ≡ true

pub record EventTaken (w : SheetWriter) (p : Progress) (e : Event) (x : Result Progress Refusal) (w' : SheetWriter) : Type 0 where
  pub same : SameBuffers w w'
  pub ended : (s : State) → At s w p → event_ok e ≡ true → EventEnded (step (lent_to w.rows.now w.names.now) s e) w w' x
