-- One event by its refusals in their order: 8, then 6 or 7, then 9 or 10; an event that meets none of them is due. Assumes nothing.
use Prim.Native.Nat.{ℕ, ◌≤◌, ◌<◌}
use mathlib.Core.Path.{◌≡◌, refl, sym, ap, subst, ◌∙◌}
use mathlib.Core.Bool.{true}
use mathlib.Core.List.{List}
use native.Mathlib.Omega.{arith}
use borrow.Author.Tests.{lt-ltb, le-ltb}
use Rattle.std.specs.Prelude.{Result, Err}
use Rattle.sheet.specs.declared.refusal.Refusal.{Refusal}
use Rattle.sheet.specs.Returned.{refusal_number}
use Rattle.sheet.specs.Limits.{events_limit}
use Rattle.sheet.specs.Lengths.{Lengths}
use Rattle.rows.specs.declared.writer.SheetWriter.{SheetWriter}
use Rattle.rows.proofs.Laws.Writer.{same_itself}
use Rattle.xsd_types.specs.State.{State}
use Rattle.xsd_parser.specs.Event.{Tag, Event}
use Rattle.xsd_parser.specs.EventText.{event_ok}
use Rattle.xsd_parser.specs.Handlers.{Outcome, ok, refuse, ◌and_then◌}
use Rattle.xsd_parser.specs.Step.{handled, tags_after, counted, room_for, step}
use Rattle.xsd_parser.proofs.Laws.Steps.{proper-parts, tags-kept, reader-kept, counted-proper}
use Rattle.xsd_parser.proofs.Laws.Numbers.{numbers-kept}
use Rattle.xsd_actions.specs.Actions.{Action}
use Rattle.xsd_actions.specs.Answers.{decision}
use Rattle.xsd_progress.specs.Answers.{event_as}
use Rattle.xsd_progress.specs.declared.open_tags.Arrival.{Arrival}
use Rattle.xsd_progress.specs.declared.Progress.{Progress}
use Rattle.xsd_progress.specs.Progress.{At, lent_to}
use Rattle.xsd_read.specs.Due.{Due, DueRoom, EventEnded, Stepped}
use Rattle.xsd_read.specs.Events.{EventRoom, EventTaken}
use Rattle.xsd_read.proofs.Laws.Decisions.{Told, Handled, told-refused, told-accepted}

step-eight : (lent : Lengths) (s : State) (e : Event) → events_limit ≤ s.events → step lent s e ≡ refuse 8
unfolding step
step-eight lent s e h = rw (le-ltb s.events events_limit h)

step-tags : (lent : Lengths) (s : State) (e : Event) (k : ℕ) → s.events < events_limit → tags_after e s.open_tags ≡ refuse k → step lent s e ≡ refuse k
unfolding step ◌and_then◌
step-tags lent s e k h q = rw (lt-ltb s.events events_limit h, q)

step-on : (lent : Lengths) (s : State) (e : Event) (n : ℕ) → s.events < events_limit → tags_after e s.open_tags ≡ ok n
    → step lent s e ≡ (handled s.by_standard s.events e s.reader and_then (λ r. room_for lent (counted s n r)))
unfolding step ◌and_then◌
step-on lent s e n h q = rw (lt-ltb s.events events_limit h, q)

-- a refusal leaves the sheet
taken_refused : {w : SheetWriter} {p : Progress} {e : Event} (r : Refusal) → ((s : State) → At s w p → step (lent_to w.rows.now w.names.now) s e ≡ refuse (refusal_number r))
    → EventTaken w p e (Err r) w
unfolding EventEnded
taken_refused {w} r f = record { same = same_itself w; ended = λ s at k. record { refused = f s at; kept = refl } }

-- 8
pub taken-eight : {w : SheetWriter} {p : Progress} {e : Event} → events_limit ≤ p.events → EventTaken w p e (Err Refusal.TooManyEvents) w
taken-eight {e = e} h = taken_refused Refusal.TooManyEvents (λ s at. step-eight _ s e (omega (arith, h, at.events)))

-- 6 and 7
pub taken-tags : {w : SheetWriter} {p : Progress} {e : Event} (r : Refusal) → p.events < events_limit → tags_after e p.open_tags ≡ refuse (refusal_number r) → EventTaken w p e (Err r) w
taken-tags {e = e} r h q = taken_refused r (λ s at. step-tags _ s e (refusal_number r) (omega (arith, h, at.events)) (ap (tags_after e) (sym at.tags) ∙ q))

-- an event that is counted and decided, before any state is named
pub record Arrives (rows : List ℕ) (p : Progress) (e : Event) (x : Arrival) : Type 0 where
  pub more : p.events < events_limit
  pub tagged : tags_after e p.open_tags ≡ ok x.open_tags
  pub tag : Tag
  pub event_is : e ≡ event_as x.kind tag
  pub choice : x.by_standard ≡ p.by_standard
  pub told : Told rows p e x.decision
  pub action : Action
  pub said : decision x.decision ≡ ok action

arrives-on : {w : SheetWriter} {p : Progress} {e : Event} {x : Arrival} {s : State} → Arrives w.rows.now p e x → At s w p
    → step (lent_to w.rows.now w.names.now) s e ≡ (handled s.by_standard s.events e s.reader and_then (λ r. room_for (lent_to w.rows.now w.names.now) (counted s x.open_tags r)))
arrives-on {w} {e = e} {x = x} {s = s} y at =
    step-on (lent_to w.rows.now w.names.now) s e x.open_tags (omega (arith, y.more, at.events)) (ap (tags_after e) (sym at.tags) ∙ y.tagged)

-- 9 and 10
pub taken-decided : {w : SheetWriter} {p : Progress} {e : Event} (n : ℕ) (r : Refusal) → p.events < events_limit
    → tags_after e p.open_tags ≡ ok n → Told w.rows.now p e (Err r) → EventTaken w p e (Err r) w
unfolding ◌and_then◌
taken-decided {e = e} n r more tagged told =
    taken_refused r (λ s at. step-on _ s e n (omega (arith, more, at.events)) (ap (tags_after e) (sym at.tags) ∙ tagged) ∙ rw (told-refused r told at))

-- every other event is due
pub due-at : {w : SheetWriter} {p : Progress} {e : Event} {x : Arrival} {s : State} {a : Action}
    → Arrives w.rows.now p e x → decision x.decision ≡ ok a → At s w p → event_ok e ≡ true → (done : Handled s.by_standard s.events e s.reader a) → Due w p x s e done.r'
due-at {e = e} {x = x} {s = s} {a = a} y q at k done =
    let o = proper-parts s at.proper in
    let tagged = ap (tags_after e) (sym at.tags) ∙ y.tagged in
    let n = x.open_tags in
    record {
      at = at;
      tag = y.tag;
      event_is = y.event_is;
      action = a;
      decided = q;
      choice = y.choice ∙ at.choice;
      acted = done.acted;
      proper_after = counted-proper s n done.r' (omega (arith, y.more, at.events)) (tags-kept e s.open_tags n tagged o.tags)
          (reader-kept s.by_standard s.events e s.reader done.r' s.open_tags n tagged done.handles k o.reader)
          (numbers-kept s.by_standard s.events e s.reader done.r' o.numbers done.handles);
    }

pub due-room : {w : SheetWriter} {p : Progress} {e : Event} {x : Arrival} → EventRoom w p e → Arrives w.rows.now p e x → DueRoom w p x
due-room {e = e} {x = x} room y =
    let st = room.standing in
    let done = told-accepted y.action y.told st.at y.said in
    record { s = st.s; e = e; r = done.r'; due = due-at y y.said st.at room.texts done; few = st.few }

pub taken-done : {w w' : SheetWriter} {p : Progress} {e : Event} {x : Arrival} {y : Result Progress Refusal} → Arrives w.rows.now p e x → Stepped w p x y w' → EventTaken w p e y w'
unfolding ◌and_then◌
taken-done {w} {w'} {e = e} {x = x} {y = y} arrived step =
    record {
      same = step.same;
      ended = λ s at k.
          let done = told-accepted arrived.action arrived.told at arrived.said in
          subst (λ (z : Outcome State). EventEnded z w w' y) (sym (arrives-on arrived at)) (rw done.handles (step.ended s e done.r' (due-at arrived arrived.said at k done)));
    }
