-- What was decided for an event by the numbers that a reading carries is what the handlers do on each state that they stand for. Assumes nothing.
--     Told          what was decided, before any state is named
--     Handled       the reader after an action
use Prim.Native.Nat.{ℕ}
use mathlib.Core.Bool.{Bool}
use mathlib.Core.Path.{◌≡◌, refl, sym, ap, ap₂, subst, ◌∙◌}
use mathlib.Core.List.{List}
use Rattle.std.specs.Prelude.{Result, Err}
use Rattle.text.specs.Text.{Text}
use Rattle.sheet.specs.declared.refusal.Refusal.{Refusal}
use Rattle.sheet.specs.Returned.{refusal_number}
use Rattle.rows.specs.declared.writer.SheetWriter.{SheetWriter}
use Rattle.xsd_types.specs.State.{Reader, State}
use Rattle.xsd_types.specs.Rows.{rows_of}
use Rattle.xsd_parser.specs.Event.{Tag, Event}
use Rattle.xsd_parser.specs.Handlers.{Outcome, ok, refuse}
use Rattle.xsd_parser.specs.Step.{handled, tags_after}
use Rattle.tape.specs.Pairs.{tag_at}
use Rattle.tape.specs.declared.TagRecord.{TagRecord}
use Rattle.tape.specs.Answers.{record_event}
use Rattle.xsd_actions.specs.declared.Decision.{Decision}
use Rattle.xsd_actions.specs.declared.Mode.{Mode}
use Rattle.xsd_actions.specs.Actions.{Action, Acted, mode_of, head_tag, reader_rows}
use Rattle.xsd_actions.specs.Decided.{Decides, acts, refuses, decided}
use Rattle.xsd_actions.specs.Answers.{decision}
use Rattle.xsd_actions.proofs.Laws.Decides.{decides}
use Rattle.xsd_progress.specs.Answers.{tags, event_as}
use Rattle.xsd_progress.specs.Open.{TagOfHead}
use Rattle.xsd_progress.specs.declared.Progress.{Progress}
use Rattle.xsd_progress.specs.Progress.{At}

-- a record's event is that of its kind
pub record-as : (text : Text) (marks : List ℕ) (t : TagRecord) → record_event text marks t ≡ event_as t.kind (tag_at text marks t.pairs t.count)
unfolding record_event event_as
record-as text marks t = refl

-- the open tags after it are those of its kind
pub counted-as : (text : Text) (marks : List ℕ) (t : TagRecord) (n : ℕ) {r : Result ℕ Refusal} (o : Result ℕ Refusal) → ((g : Tag) → tags r ≡ tags_after (event_as t.kind g) n) → r ≡ o
    → tags_after (record_event text marks t) n ≡ tags o
counted-as text marks t n o f q = ap (λ (e : Event). tags_after e n) (record-as text marks t) ∙ sym (f _) ∙ ap tags q

pub record Told (rows : List ℕ) (p : Progress) (e : Event) (d : Result Decision Refusal) : Type 0 where
  pub head : ℕ
  pub head_is : TagOfHead rows p.mode.context p.head head
  pub decided_is : decision d ≡ decided p.events e p.mode head

head_at : {s : State} {w : SheetWriter} {p : Progress} {head : ℕ} → At s w p → TagOfHead w.rows.now p.mode.context p.head head → head ≡ head_tag s.reader.context
unfolding rows_of reader_rows mode_of
head_at {s} {w} {p} at h =
    let context = ap (λ (m : Mode). m.context) at.mode in
    h.is w.names.now w.used at.z s.reader.schema.target_namespace s.reader at.holds context (λ k. at.head (rw context at k))

-- what `Decides` says of each outcome
pub record Handled (by_standard : Bool) (n : ℕ) (e : Event) (r : Reader) (a : Action) : Type 0 where
  pub r' : Reader
  pub handles : handled by_standard n e r ≡ ok r'
  pub acted : Acted by_standard e r a r'

abbrev HandledOr : Bool → ℕ → Event → Reader → Outcome Action → Type 0
HandledOr by_standard n e r (ok a) = Handled by_standard n e r a
HandledOr by_standard n e r (refuse k) = handled by_standard n e r ≡ refuse k

handled-or : {by_standard : Bool} {n : ℕ} {e : Event} {r : Reader} {o : Outcome Action} → Decides by_standard n e r o → HandledOr by_standard n e r o
handled-or (acts a r' h x) = record { r' = r'; handles = h; acted = x }
handled-or (refuses n h) = h

told_at : {w : SheetWriter} {p : Progress} {e : Event} {d : Result Decision Refusal} {s : State} (o : Outcome Action)
    → Told w.rows.now p e d → At s w p → decision d ≡ o → HandledOr s.by_standard s.events e s.reader o
told_at {p = p} {e} {d} {s} o t at q =
    let same = sym q ∙ t.decided_is ∙ ap (λ (n : ℕ). decided n e p.mode t.head) at.events ∙ ap₂ (decided s.events e) at.mode (head_at at t.head_is) in
    handled-or (subst (Decides s.by_standard s.events e s.reader) (sym same) (decides s.by_standard s.events e s.reader))

-- a refused decision is the handlers' refusal
pub told-refused : {w : SheetWriter} {p : Progress} {e : Event} {s : State} (r : Refusal)
    → Told w.rows.now p e (Err r) → At s w p → handled s.by_standard s.events e s.reader ≡ refuse (refusal_number r)
unfolding decision
told-refused r t at = told_at (refuse (refusal_number r)) t at refl

-- an accepted one is what they do
pub told-accepted : {w : SheetWriter} {p : Progress} {e : Event} {d : Result Decision Refusal} {s : State} (a : Action)
    → Told w.rows.now p e d → At s w p → decision d ≡ ok a → Handled s.by_standard s.events e s.reader a
told-accepted a t at q = told_at (ok a) t at q
