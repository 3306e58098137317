-- The sheet after an action is that of the state after the event. Assumes nothing.
use Prim.Native.Nat.{ℕ, ◌+◌, ◌≤◌, ◌<◌}
use mathlib.Core.Path.{◌≡◌, refl, sym, ap, ap₂, subst, ◌∙◌}
use mathlib.Core.Bool.{Bool, true, false}
use mathlib.Core.List.{List, [], ◌∷◌, ◌++◌, append-nil}
use native.Mathlib.Omega.{arith}
use lib.Dec.{ltb}
use lib.ListN.{length}
use borrow.Author.Tests.{ltb-true, ltb-false}
use Rattle.text.specs.Text.{Text}
use Rattle.text.proofs.Laws.Tests.{if-cases}
use Rattle.sheet.specs.declared.refusal.Refusal.{Refusal}
use Rattle.sheet.specs.Rows.{Row, names_of}
use Rattle.sheet.specs.Lengths.{fits}
use Rattle.xsd_types.specs.Types.{Item}
use Rattle.xsd_types.specs.State.{Reader, State}
use Rattle.xsd_types.specs.Rows.{rows_of, rows_used, names_used, namespace_row, items_rows, context_rows, context_number}
use Rattle.xsd_types.specs.Sheet.{state_fits}
use Rattle.xsd_parser.specs.Event.{Event}
use Rattle.xsd_parser.specs.Handlers.{ok}
use Rattle.xsd_parser.specs.Step.{counted}
use Rattle.rows.specs.declared.numbers.Used.{Used}
use Rattle.rows.specs.declared.writer.SheetWriter.{SheetWriter}
use Rattle.rows.specs.Writer.{Held}
use Rattle.rows.proofs.Laws.Writer.{same_itself}
use Rattle.xsd_actions.specs.declared.Decision.{Decision}
use Rattle.xsd_actions.specs.declared.Mode.{Mode}
use Rattle.xsd_actions.specs.Actions.{Action, Acted, mode_of, mode_after, reader_rows}
use Rattle.xsd_actions.specs.Answers.{decision}
use Rattle.xsd_progress.specs.declared.open_tags.Arrival.{Arrival}
use Rattle.xsd_progress.specs.declared.open_tags.Arrived.{Arrived}
use Rattle.xsd_progress.specs.Change.{EventAfter}
use Rattle.xsd_act.specs.Ready.{rows_after_all}
use Rattle.xsd_act.specs.Needs.{AllNeeded, Needed}
use Rattle.xsd_act.specs.Acts.{Done}
use Rattle.xsd_act.proofs.Laws.Needs.{needed-keep, needed-fits}
use Rattle.xsd_act.proofs.Laws.Done.{done-keep}
use Rattle.xsd_act.proofs.Laws.Room.{counted-fits}
use Rattle.xsd_progress.specs.declared.Progress.{Progress}
use Rattle.xsd_progress.specs.Progress.{At, lent_to}
use Rattle.std.specs.Prelude.{Ok, Err}
use Rattle.xsd_read.specs.Due.{open_head_after, stands_at, StandsAfter, Due, DueRoom, EventEnded, Stepped}
use Rattle.xsd_read.proofs.Laws.Ready.{ready_at, due-small, used-fits}
use Rattle.xsd_parser.proofs.Laws.Room.{room_fits, room-lacks}
use Rattle.xsd_good.proofs.Laws.Held.{none_open}

-- the rows after an action, for the parts of a state
abbrev pub all_after : Action → State → List Row
all_after a s = rows_after_all a s.reader.schema.target_namespace (items_rows s.reader.schema.items) (context_rows s.reader.context)

pub rows-after : (s : State) {by_standard : Bool} {e : Event} {a : Action} {r : Reader} (tags : ℕ) → Acted by_standard e s.reader a r → rows_of (counted s tags r) ≡ all_after a s
unfolding rows_of counted rows_after_all reader_rows
rows-after s tags x = ap₂ (λ (n : Text) (rs : List Row). namespace_row n ∷ rs) x.namespace x.rows

-- there the rows used end where a type that is opened will stand
pub end-of-items : {s : State} {w : SheetWriter} {p : Progress} → At s w p → context_number s.reader.context < 2
    → w.used.rows ≡ 2 + length (items_rows s.reader.schema.items)
unfolding rows_of
end-of-items {s} at h =
    let items = items_rows s.reader.schema.items in
    let alone = ap (λ (rs : List Row). length (items ++ rs)) (none_open s.reader.context h) ∙ ap (length {A = Row}) (append-nil items) in
    omega (arith, at.holds.rows_used, alone)

-- a type that is open after an event stands where it stood, or behind the rows used before
pub head-after : {s : State} {w : SheetWriter} {p : Progress} (items : List Item) → At s w p → items ≡ s.reader.schema.items
    → open_head_after p w.used.rows ≡ 2 + length (items_rows items)
unfolding open_head_after mode_of
head-after {p = p} items at e =
    let context = ap (λ (m : Mode). m.context) at.mode in
    let place = ap (λ (is : List Item). 2 + length (items_rows is)) (sym e) in
    if-cases (λ (n : ℕ). n ≡ 2 + length (items_rows items)) (ltb p.mode.context 2)
    (λ h. end-of-items at (rw context at (ltb-true p.mode.context 2 h)) ∙ place)
    (λ h. at.head (rw context at (ltb-false p.mode.context 2 h)) ∙ place)

-- the mode after the event is that of the reader after it
pub mode-due : {w : SheetWriter} {p : Progress} {x : Arrival} {s : State} {e : Event} {r : Reader} {after : Arrived} → Due w p x s e r → EventAfter x p.mode after → after.mode ≡ mode_of r
mode-due {p = p} {x} {s} {e} due y =
    y.mode_is due.tag due.action due.decided
    ∙ ap₂ (λ (b : Bool) (ev : Event). mode_after b ev due.action p.mode) due.choice (sym due.event_is)
    ∙ ap (mode_after s.by_standard e due.action) due.at.mode ∙ sym due.acted.mode

-- the sheet after the action holds the state after the event
pub at_after : {w w' : SheetWriter} {p : Progress} {x : Arrival} {s : State} {e : Event} {r : Reader} {after : Arrived}
    → Due w p x s e r → Done w p.head (decision x.decision) w' → EventAfter x p.mode after → At (counted s x.open_tags r) w' (stands_at p after (open_head_after p w.used.rows))
unfolding counted
at_after {w' = w'} {x = x} {s} {r = r} due done y =
    let at = due.at in
    record {
      mode = mode-due due y;
      events = omega (arith, at.events);
      tags = y.opened;
      choice = at.choice;
      z = at.z;
      holds = subst (Held w' at.z) (sym (rows-after s x.open_tags due.acted)) (done.holds at.z _ _ _ due.action (ready_at at) due.decided due.acted.fitting);
      head = λ h. head-after r.schema.items at (due.acted.items h);
      proper = due.proper_after;
    }

-- whether the state after the event has room is whether what is needed has
pub fits_after : {w : SheetWriter} {p : Progress} {x : Arrival} {s : State} {e : Event} {r : Reader} {need : Used} (n m : ℕ)
    → Due w p x s e r → AllNeeded w.rows.now w.used p.head (decision x.decision) need
    → state_fits n m (counted s x.open_tags r) ≡ fits need.rows need.names n m
unfolding state_fits rows_used names_used
fits_after {w} {x = x} {s} n m due y =
    let at = due.at in
    let c = y.counted w.names.now at.z _ _ _ due.action (ready_at at) due.decided due.acted.fitting in
    ap (λ (rs : List Row). fits (1 + length rs) (length (names_of rs)) n m) (rows-after s x.open_tags due.acted) ∙ sym (counted-fits n m c)

-- so it is with what the code counts, in buffers as the paper has them
pub fits_counted : {w : SheetWriter} {p : Progress} {x : Arrival} {s : State} {e : Event} {r : Reader} {need : Used} (n m : ℕ)
    → Due w p x s e r → Needed w.rows.now w.used p.head (decision x.decision) need → m ≤ 65536
    → state_fits n m (counted s x.open_tags r) ≡ fits need.rows need.names n m
fits_counted n m due y few = fits_after n m due y.needed ∙ sym (needed-fits n m few y)

-- what has no room is refused with 11
pub stepped-refused : {w : SheetWriter} {p : Progress} {x : Arrival} {need : Used}
    → Needed w.rows.now w.used p.head (decision x.decision) need → fits need.rows need.names (length w.rows.now) (length w.names.now) ≡ false
    → Stepped w p x (Err Refusal.NoRoom) w
unfolding EventEnded
stepped-refused {w} {p} {x} y e =
    record {
      same = same_itself w;
      ended = λ s ev r due. record {
        refused = room-lacks (lent_to w.rows.now w.names.now) (counted s x.open_tags r)
            (fits_counted (length w.rows.now) (length w.names.now) due y w.few ∙ e);
        kept = refl;
      };
    }

-- what has room is done
pub stepped-done : {w w' : SheetWriter} {p p' : Progress} {x : Arrival} {need : Used}
    → Needed w.rows.now w.used p.head (decision x.decision) need → fits need.rows need.names (length w.rows.now) (length w.names.now) ≡ true
    → Done w p.head (decision x.decision) w' → StandsAfter p x (open_head_after p w.used.rows) p' → Stepped w p x (Ok p') w'
unfolding EventEnded
stepped-done {w} {w'} {x = x} y e done after =
    record {
      same = done.same;
      ended = λ s ev r due. record {
        s' = counted s x.open_tags r;
        accepted = room_fits (lent_to w.rows.now w.names.now) (counted s x.open_tags r) (fits_counted (length w.rows.now) (length w.names.now) due y w.few ∙ e);
        stands = subst (At (counted s x.open_tags r) w') (sym after.stands) (at_after due done after.arrived);
      };
    }

-- a sheet that is kept needs what it uses, which has room
pub stepped_kept : {w : SheetWriter} {p p' : Progress} {x : Arrival} {d : Decision} → DueRoom w p x → x.decision ≡ Ok d → d ≡ Decision.Keep
    → StandsAfter p x (open_head_after p w.used.rows) p' → Stepped w p x (Ok p') w
unfolding decision
stepped_kept {x = x} q o e after =
    let kept : decision x.decision ≡ ok Action.keep = ap decision (o ∙ ap Ok e) in
    stepped-done (rw kept (needed-keep (due-small q) refl)) (used-fits q.due.at) (rw kept done-keep) after
