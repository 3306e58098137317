-- The record after an event, by the kind of the event. Laws of specs/Change.antt. No contract cites them. Assumes nothing.
use Rattle.std.specs.Prelude.{Result}
use Prim.Native.Nat.{ℕ}
use mathlib.Core.Path.{◌≡◌, refl, sym, ap, ap₂, ◌∙◌}
use mathlib.Core.Bool.{Bool, true, false}
use borrow.Author.Tests.{eqb-true, eqb-false}
use lib.Dec.{eqb, leb}
use Rattle.sheet.specs.declared.refusal.Refusal.{Refusal}
use Rattle.xsd_parser.specs.Event.{Tag, Event}
use Rattle.xsd_parser.specs.Handlers.{ok}
use Rattle.xsd_actions.specs.declared.Decision.{Decision}
use Rattle.xsd_actions.specs.declared.Mode.{Mode}
use Rattle.xsd_actions.specs.Actions.{Action, root_after, tag_mode, close_mode, mode_after}
use Rattle.xsd_actions.specs.Answers.{decision}
use Rattle.xsd_progress.specs.Answers.{event_as}
use Rattle.xsd_progress.specs.Modes.{action_of}
use Rattle.xsd_progress.proofs.Laws.Kinds.{as-start, as-close, as-empty}
use Rattle.xsd_progress.proofs.Laws.Modes.{action-said}
use Rattle.xsd_progress.specs.declared.open_tags.OpenTags.{OpenTags}
use Rattle.xsd_progress.specs.declared.open_tags.Arrival.{Arrival}
use Rattle.xsd_progress.specs.Change.{mode_with, ModeAfter, Changed, SeenAfter, EventAfter}

-- the mode after a close, and after a tag
after-close : (by_standard : Bool) (kind : ℕ) (t : Tag) (a : Action) (m : Mode) → kind ≡ 3 → mode_after by_standard (event_as kind t) a m ≡ close_mode m
unfolding mode_after
after-close s kind t a m k = rw (as-close kind t k)

after_tag : (by_standard : Bool) (kind : ℕ) (t : Tag) (a : Action) (m : Mode) → (b : Bool) → eqb kind 1 ≡ b → (kind ≡ 3 → ⊥)
    → mode_after by_standard (event_as kind t) a m ≡ tag_mode by_standard b a m
unfolding mode_after
after_tag s kind t a m true e k = rw (as-start kind t (eqb-true kind 1 e))
after_tag s kind t a m false e k = rw (as-empty kind t (eqb-false kind 1 e) k)

pub mode-close : {by_standard : Bool} {kind : ℕ} {d : Result Decision Refusal} {m m' : Mode} → kind ≡ 3 → m' ≡ close_mode m → ModeAfter by_standard kind d m m'
mode-close {by_standard} {kind} {d} {m} {m'} k f = record { is = λ t a q. f ∙ sym (after-close by_standard kind t a m k) }

pub mode-tag : {by_standard : Bool} {kind : ℕ} {d : Result Decision Refusal} {m m' : Mode} → (kind ≡ 3 → ⊥)
    → ((a : Action) → decision d ≡ ok a → m' ≡ tag_mode by_standard (eqb kind 1) a m) → ModeAfter by_standard kind d m m'
mode-tag {by_standard} {kind} {d} {m} {m'} k f = record { is = λ t a q. f a q ∙ sym (after_tag by_standard kind t a m (eqb kind 1) refl k) }

-- another number for the same event
pub mode-as : {by_standard : Bool} {kind number : ℕ} {d : Result Decision Refusal} {m m' : Mode} → ((t : Tag) → event_as kind t ≡ event_as number t)
    → ModeAfter by_standard kind d m m' → ModeAfter by_standard number d m m'
mode-as {by_standard} {m = m} f g = record { is = λ t a q. g.is t a q ∙ ap (λ (e : Event). mode_after by_standard e a m) (f t) }

pub seen-as : {kind number : ℕ} {d : Result Decision Refusal} {seen seen' : Bool} → ((t : Tag) → event_as kind t ≡ event_as number t)
    → SeenAfter kind d seen seen' → SeenAfter number d seen seen'
seen-as f g = record { is = λ t a q b m s. g.is t a q b m s ∙ ap (λ (e : Event). (mode_after b e a m).root_seen) (f t) }

-- root seen stands beside the other three: it changes none of them
abbrev beside : Mode → Mode → Mode
beside x y = record { context = y.context; nesting = y.nesting; root_seen = x.root_seen; extension = y.extension }

close-beside : (o : OpenTags) (seen : Bool) (b c : Bool) → leb o.context 1 ≡ b → eqb o.nesting 0 ≡ c
    → beside (close_mode (mode_with seen o)) (close_mode (mode_with false o)) ≡ close_mode (mode_with seen o)
unfolding close_mode mode_with
close-beside o seen true true e f = rw (f, e)
close-beside o seen false true e f = rw (f, e)
close-beside o seen b false e f = rw f

mode-beside : (by_standard : Bool) (e : Event) (a : Action) (o : OpenTags) (seen : Bool)
    → beside (mode_after by_standard e a (mode_with seen o)) (mode_after by_standard e a (mode_with false o)) ≡ mode_after by_standard e a (mode_with seen o)
unfolding mode_after tag_mode mode_with
mode-beside s (Event.start t) a o seen = refl
mode-beside s (Event.empty t) a o seen = refl
mode-beside s Event.close a o seen = close-beside o seen (leb o.context 1) (eqb o.nesting 0) refl refl

pub changed : {x : Arrival} {o : OpenTags} {m : Mode} → ModeAfter x.by_standard x.kind x.decision (mode_with false o) m
    → Changed x o (record { context = m.context; nesting = m.nesting; open_tags = x.open_tags; extension = m.extension })
unfolding mode_with
changed {x} {o} {m} g =
    record {
      opened = refl;
      mode_is = λ seen t a q. let e = event_as x.kind t in ap (beside (mode_after x.by_standard e a (mode_with seen o))) (g.is t a q)
          ∙ mode-beside x.by_standard e a o seen;
    }

-- a close leaves root seen
close-seen : (m : Mode) (b c : Bool) → leb m.context 1 ≡ b → eqb m.nesting 0 ≡ c → m.root_seen ≡ (close_mode m).root_seen
unfolding close_mode
close-seen m true true e f = rw (f, e)
close-seen m false true e f = rw (f, e)
close-seen m b false e f = rw f

pub seen-close : {kind : ℕ} {d : Result Decision Refusal} {seen : Bool} → kind ≡ 3 → SeenAfter kind d seen seen
seen-close {kind} {d} {seen} k =
    record { is = λ t a q b m s. sym s ∙ close-seen m (leb m.context 1) (eqb m.nesting 0) refl refl ∙ sym (ap (λ (x : Mode). x.root_seen) (after-close b kind t a m k)) }

pub seen-tag : {kind : ℕ} {d : Result Decision Refusal} {seen seen' : Bool} → (kind ≡ 3 → ⊥) → seen' ≡ root_after (action_of d) seen → SeenAfter kind d seen seen'
unfolding tag_mode
seen-tag {kind} {d} {seen} {seen'} k f =
    record {
      is = λ t a q b m s. f ∙ ap₂ root_after (action-said d a q) (sym s)
          ∙ ap (λ (x : Mode). x.root_seen) (sym (after_tag b kind t a m (eqb kind 1) refl k));
    }

-- the record and root seen together
pub event-after : {x : Arrival} {m : Mode} {n : ℕ} {next : OpenTags} {seen : Bool} {m' : Mode}
    → Changed x (record { context = m.context; nesting = m.nesting; open_tags = n; extension = m.extension }) next
    → SeenAfter x.kind x.decision m.root_seen seen → m' ≡ mode_with seen next
    → EventAfter x m (record { mode = m'; open_tags = next.open_tags })
unfolding mode_with
event-after {x} {m} {n} {next} {seen} {m'} c s f =
    record {
      opened = c.opened;
      mode_is = λ t a q. f ∙ ap (λ (b : Bool). mode_with b next) (s.is t a q x.by_standard m refl) ∙ c.mode_is m.root_seen t a q;
    }
