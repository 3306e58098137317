-- What the handlers do to a reader is what was decided by its mode and the tag of its open head. Assumes nothing.
use mathlib.Core.Path.{refl}
use mathlib.Core.Bool.{Bool}
use Prim.Native.Nat.{ℕ}
use Rattle.xsd_types.specs.State.{Reader}
use Rattle.xsd_parser.specs.Event.{Event}
use Rattle.xsd_parser.specs.Handlers.{in_context}
use Rattle.xsd_parser.specs.Step.{handled}
use Rattle.xsd_actions.specs.Actions.{mode_of, head_tag}
use Rattle.xsd_actions.specs.Decided.{decided, Decides, acts}
use Rattle.xsd_actions.proofs.Laws.Agree.{agree_decides}
use Rattle.xsd_actions.proofs.Laws.Starts.{start-agrees}
use Rattle.xsd_actions.proofs.Laws.Empties.{empty-agrees}
use Rattle.xsd_actions.proofs.Laws.Closes.{close-acted}

pub decides : (by_standard : Bool) (m : ℕ) (e : Event) (r : Reader) → Decides by_standard m e r (decided m e (mode_of r) (head_tag r.context))
unfolding decided handled in_context
decides b m (Event.start t) r = agree_decides b m (Event.start t) r _ refl (start-agrees b m t r r.context)
decides b m (Event.empty t) r = agree_decides b m (Event.empty t) r _ refl (empty-agrees b m t r r.context)
decides b m Event.close r = acts _ _ refl (close-acted b r r.context)
