-- Order 14: two tags of which the same is seen are handled alike, whatever else they have. Assumes nothing.
--     SeenAlike     two events of one kind, of whose tags the same is seen
use mathlib.Core.Path.{◌≡◌, refl, ap}
use mathlib.Core.Bool.{Bool}
use Prim.Native.Nat.{ℕ}
use Rattle.sheet.specs.Lengths.{Lengths}
use Rattle.xsd_types.specs.State.{Reader, State}
use Rattle.xsd_parser.specs.Event.{Tag, Event}
use Rattle.xsd_parser.specs.Seen.{Seen, seen}
use Rattle.xsd_parser.specs.Handlers.{on_start, on_empty}
use Rattle.xsd_parser.specs.Step.{handled, tags_after, step}

pub data SeenAlike : Event → Event → Type 0 where
  start : {t u : Tag} → seen t ≡ seen u → SeenAlike (Event.start t) (Event.start u)
  empty : {t u : Tag} → seen t ≡ seen u → SeenAlike (Event.empty t) (Event.empty u)
  close : SeenAlike Event.close Event.close

pub handled-alike : (by_standard : Bool) (n : ℕ) {e f : Event} (r : Reader) → SeenAlike e f → handled by_standard n e r ≡ handled by_standard n f r
unfolding handled
handled-alike b n r (SeenAlike.start h) = ap (λ (t : Seen). on_start b n t r r.context) h
handled-alike b n r (SeenAlike.empty h) = ap (λ (t : Seen). on_empty n t r r.context) h
handled-alike b n r SeenAlike.close = refl

pub tags-alike : (n : ℕ) {e f : Event} → SeenAlike e f → tags_after e n ≡ tags_after f n
unfolding tags_after
tags-alike n (SeenAlike.start h) = refl
tags-alike n (SeenAlike.empty h) = refl
tags-alike n SeenAlike.close = refl

pub step-alike : (lent : Lengths) (s : State) {e f : Event} → SeenAlike e f → step lent s e ≡ step lent s f
unfolding step
step-alike lent s h = rw (tags-alike s.open_tags h, handled-alike s.by_standard s.events s.reader h)
