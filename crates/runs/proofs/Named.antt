-- Named in docs/PORT.md: an event that is accepted leaves heads of the number 0 or of a later event than the first, where the heads before it were such ones. No
-- contract cites it: `stored-run` of Stored says it of a run. Assumes nothing.
use Prim.Native.Nat.{ℕ, ◌≤◌}
use mathlib.Core.Path.{◌≡◌}
use mathlib.Core.Bool.{true}
use native.Mathlib.Omega.{arith}
use lib.Dec.{eqb}
use borrow.Author.Tests.{le-leb}
use Rattle.text.specs.Text.{Text}
use Rattle.std.proofs.lemmas.Bool.{or_right}
use Rattle.sheet.specs.Lengths.{Lengths}
use Rattle.xsd_types.specs.State.{State, heads_pass}
use Rattle.xsd_parser.specs.Event.{Event}
use Rattle.xsd_parser.specs.Handlers.{ok}
use Rattle.xsd_parser.specs.Step.{step}
use Rattle.xsd_parser.proofs.Laws.Steps.{step-reader, step-events}
use Rattle.xsd_parser.proofs.Laws.Numbers.{handled-passes}
use Rattle.runs.specs.Cleared.{zero_or_later}

-- the heads of a state after so many events
pub record Later (from : ℕ) (s : State) : Type 0 where
  pub done : from ≤ s.events
  pub heads : heads_pass (zero_or_later from) s.reader ≡ true

pub later-step : (from : ℕ) (lent : Lengths) (s : State) (e : Event) (s' : State) → step lent s e ≡ ok s' → Later from s → Later from s'
unfolding zero_or_later
later-step from lent s e s' q h =
    let own : _ → (v : Text) → _ → zero_or_later from v s.events ≡ true = λ m v k. or_right (eqb s.events 0) _ (le-leb from s.events h.done) in
    record {
      done = omega (arith, h.done, step-events lent s e s' q);
      heads = handled-passes (zero_or_later from) s.events s.by_standard e s.reader s'.reader own h.heads (step-reader lent s e s' q);
    }
