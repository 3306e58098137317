-- `xsd_read::event::on_event` meets its contract: the refusals stand in the order of the definition's, and an event that meets none of them is due. Assumes nothing.
use Prim.Native.Nat.{ℕ, ◌<◌}
use mathlib.Core.Path.{◌≡◌, refl}
use mathlib.Core.List.{List}
use native.Mathlib.Omega.{arith}
use Rattle.std.specs.Prelude.{Result, Ok}
use Rattle.std.proofs.lemmas.Result.{err_from_is_err_and}
use Rattle.text.specs.Text.{Text}
use Rattle.sheet.specs.declared.refusal.Refusal.{Refusal}
use Rattle.sheet.specs.Limits.{events_limit}
use Rattle.xsd_parser.specs.Event.{Tag}
use Rattle.xsd_parser.specs.Step.{tags_after}
use Rattle.tape.specs.declared.TagRecord.{TagRecord}
use Rattle.tape.specs.Answers.{record_event}
use Rattle.xsd_actions.specs.declared.Decision.{Decision}
use Rattle.xsd_actions.specs.Answers.{decision}
use Rattle.xsd_actions.specs.Decided.{decided}
use Rattle.xsd_progress.specs.Answers.{tags, event_as}
use Rattle.xsd_progress.specs.Modes.{action_of}
use Rattle.xsd_progress.proofs.Laws.Modes.{decision-action}
use Rattle.xsd_progress.specs.Open.{TagOfHead}
use Rattle.xsd_progress.specs.declared.Progress.{Progress}
use Rattle.xsd_read.proofs.Laws.Decisions.{record-as, counted-as}
use Rattle.xsd_read.proofs.Laws.Steps.{Arrives, taken-eight, taken-tags, taken-decided, due-room, taken-done}
use Rattle.xsd_read.proofs.event.on_event.Goals as goal

-- the event with its decision
arrives : {rows : List ℕ} (text : Text) (marks : List ℕ) (t : TagRecord) {p : Progress} {n head : ℕ} {d : Decision} {r : Result ℕ Refusal}
    → p.events < events_limit → ((g : Tag) → tags r ≡ tags_after (event_as t.kind g) p.open_tags) → r ≡ Ok n
    → TagOfHead rows p.mode.context p.head head → decision (Ok d) ≡ decided p.events (record_event text marks t) p.mode head
    → Arrives rows p (record_event text marks t) (record { kind = t.kind; decision = Ok d; open_tags = n; by_standard = p.by_standard })
unfolding tags
arrives text marks t {p} {head = head} {d} more counted is head_is decided_is =
    record {
      more = more;
      tagged = counted-as text marks t p.open_tags _ counted is;
      tag = _;
      event_is = record-as text marks t;
      choice = refl;
      told = record { head = head; head_is = head_is; decided_is = decided_is };
      action = action_of (Ok d);
      said = decision-action d;
    }

pub returns-then-p-ge-EVENTS : goal.returns-then-p-ge-EVENTS
returns-then-p-ge-EVENTS c = taken-eight c.if-p-ge-EVENTS.true

pub decide_event-requires : goal.decide_event-requires
decide_event-requires c = c.requires.tag_inside

pub carry_out-requires : goal.carry_out-requires
carry_out-requires c =
    let a = c.args in
    due-room c.requires.event_room
    (arrives a.v.text.now a.v.marks.now a.t (omega (arith, c.if-p-ge-EVENTS.false)) c.tags_after.ensures c.in_ok-open_tags.was
    (rw c.as_rows.ensures at c.head_tag-head.ensures) c.in_ok-decision.ensures)

pub returns-in_err-open_tags : goal.returns-in_err-open_tags
unfolding tags
returns-in_err-open_tags c =
    let a = c.args in
    let e = err_from_is_err_and c.from_residual.result c.from_residual.ensures.1 in
    rw (e.1, e.2) (taken-tags _ (omega (arith, c.if-p-ge-EVENTS.false))
    (counted-as a.v.text.now a.v.marks.now a.t a.p.open_tags _ c.tags_after.ensures c.in_err-open_tags.was))

pub returns-in_err-decision : goal.returns-in_err-decision
unfolding tags
returns-in_err-decision c =
    let a = c.args in
    let e = err_from_is_err_and c.from_residual-in_err-decision.result c.from_residual-in_err-decision.ensures.1 in
    rw (e.1, e.2) (taken-decided c.in_ok-open_tags.open_tags _ (omega (arith, c.if-p-ge-EVENTS.false))
    (counted-as a.v.text.now a.v.marks.now a.t a.p.open_tags _ c.tags_after.ensures c.in_ok-open_tags.was)
    (record { head = _; head_is = rw c.as_rows.ensures at c.head_tag-head.ensures; decided_is = c.in_err-decision.ensures }))

pub returns : goal.returns
returns c =
    let a = c.args in
    taken-done
    (arrives a.v.text.now a.v.marks.now a.t (omega (arith, c.if-p-ge-EVENTS.false)) c.tags_after.ensures c.in_ok-open_tags.was
    (rw c.as_rows.ensures at c.head_tag-head.ensures) c.in_ok-decision.ensures) c.carry_out.ensures
