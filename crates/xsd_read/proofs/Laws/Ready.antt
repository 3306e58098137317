-- The sheet of a state is one that what was decided for an event can be done to. Assumes nothing.
use Prim.Native.Nat.{◌*◌, ◌≤◌}
use mathlib.Core.Path.{◌≡◌, sym, ap, subst, ◌∙◌}
use mathlib.Core.Bool.{true}
use mathlib.Core.List.{List, ◌∷◌}
use native.Mathlib.Omega.{arith}
use lib.ListN.{length}
use borrow.Author.Tests.{le-leb}
use Rattle.text.proofs.Laws.Tests.{and-true}
use Rattle.sheet.specs.Limits.{events_limit, open_tags_limit}
use Rattle.sheet.specs.Lengths.{fits}
use Rattle.sheet.specs.Rows.{Row}
use Rattle.rows.specs.declared.writer.SheetWriter.{SheetWriter}
use Rattle.xsd_types.specs.State.{Context, State}
use Rattle.xsd_types.specs.Rows.{rows_of, items_rows, context_rows, context_number}
use Rattle.xsd_parser.specs.Handlers.{ok}
use Rattle.xsd_actions.specs.declared.Mode.{Mode}
use Rattle.xsd_actions.specs.Actions.{Action, Fitting, mode_of}
use Rattle.xsd_actions.specs.Answers.{decision}
use Rattle.xsd_act.specs.Ready.{Ready, ReadyFor}
use Rattle.xsd_act.specs.Needs.{Small}
use Rattle.xsd_act.proofs.Laws.Needs.{ok-back}
use Rattle.xsd_progress.specs.declared.open_tags.Arrival.{Arrival}
use Rattle.xsd_progress.proofs.Laws.Pairs.{paired-rows}
use Rattle.xsd_progress.proofs.Laws.Bounds.{proper-events, proper-nesting}
use Rattle.xsd_progress.specs.declared.Progress.{Progress}
use Rattle.xsd_progress.specs.Progress.{At}
use Rattle.xsd_progress.proofs.Laws.States.{at_small}
use Rattle.xsd_read.specs.Due.{DueRoom}

-- a type is open where the context has rows
pub open-number : (c : Context) (r : Row) (kids : List Row) → context_rows c ≡ r ∷ kids → 2 ≤ context_number c
unfolding context_rows context_number
open-number Context.no_context r kids e = omega (arith, ap (length {A = Row}) e)
open-number (Context.in_schema n) r kids e = omega (arith, ap (length {A = Row}) e)
open-number (Context.in_simple_type t) r kids e = omega arith
open-number (Context.in_complex_type t) r kids e = omega arith

pub ready_at : {s : State} {w : SheetWriter} {p : Progress} → (at : At s w p)
    → Ready w.rows.now w.names.now w.used p.head at.z s.reader.schema.target_namespace (items_rows s.reader.schema.items) (context_rows s.reader.context)
unfolding rows_of
ready_at {s} at = record { holds = at.holds; here = λ r kids e. at.head (open-number s.reader.context r kids e); paired = paired-rows s }

pub ready_for : {w : SheetWriter} {p : Progress} {x : Arrival} → DueRoom w p x → (a : Action) → decision x.decision ≡ ok a → ReadyFor w.rows.now w.used p.head a
ready_for {w} q a e =
    let due = q.due in
    let last = context_rows q.s.reader.context in
    record {
      names = w.names.now;
      z = due.at.z;
      namespace = q.s.reader.schema.target_namespace;
      done = items_rows q.s.reader.schema.items;
      last = last;
      ready = ready_at due.at;
      fitting = subst (λ (b : Action). Fitting b last) (ok-back (sym due.decided ∙ e)) due.acted.fitting;
    }

pub due-small : {w : SheetWriter} {p : Progress} {x : Arrival} → DueRoom w p x → Small w.used
due-small {w} q =
    let small = at_small q.due.at in
    record { rows_used = omega (arith, small.0, q.few); names_used = omega (arith, small.1, w.few) }

-- nesting and events have room for one more
pub due-counters : {w : SheetWriter} {p : Progress} {x : Arrival} → DueRoom w p x → (p.mode.nesting ≤ open_tags_limit) × (p.events ≤ events_limit)
unfolding mode_of
due-counters q =
    let at = q.due.at in
    (omega (arith, ap (λ (m : Mode). m.nesting) at.mode, proper-nesting q.s at.proper), omega (arith, at.events, proper-events q.s at.proper))

-- what is used has room
pub used-fits : {s : State} {w : SheetWriter} {p : Progress} → At s w p → fits w.used.rows w.used.names (length w.rows.now) (length w.names.now) ≡ true
unfolding fits
used-fits {w = w} at =
    let small = at_small at in
    and-true (le-leb (10 * w.used.rows) (length w.rows.now) small.0) (le-leb w.used.names (length w.names.now) small.1)
