-- The event of a kind: 1 is a start, 3 a close, every other kind an empty tag. Assumes nothing.
use Prim.Native.Nat.{ℕ}
use mathlib.Core.Path.{◌≡◌}
use borrow.Author.Tests.{ne_eqb}
use Rattle.xsd_parser.specs.Event.{Tag, Event}
use Rattle.xsd_parser.specs.Tape.{event_of}
use Rattle.xsd_progress.specs.Answers.{event_as}

pub as-start : (kind : ℕ) (t : Tag) → kind ≡ 1 → event_as kind t ≡ Event.start t
unfolding event_as event_of
as-start kind t h = rw h

pub as-close : (kind : ℕ) (t : Tag) → kind ≡ 3 → event_as kind t ≡ Event.close
unfolding event_as
as-close kind t h = rw h

pub as-empty : (kind : ℕ) (t : Tag) → (kind ≡ 1 → ⊥) → (kind ≡ 3 → ⊥) → event_as kind t ≡ Event.empty t
unfolding event_as event_of
as-empty kind t h k = rw (ne_eqb kind 3 k, ne_eqb kind 1 h)
