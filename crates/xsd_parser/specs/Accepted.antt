-- Records that are accepted, and a record that is refused. Paper 01: "Other readings judge records in order, by the state before each .. an accepted
-- one changes the state as above, one event more done; the first refused one changes nothing and drops the rest of the piece."
--     Accepted lent s js s₁    the records js are all accepted from the state s on, and lead to the state s₁
--     Refused lent s j k       the record j is refused in the state s, with the number k
use Rattle.std.specs.Prelude.{ℕ, ◌≡◌, List, [], ◌∷◌}
use Rattle.sheet.specs.Lengths.{Lengths}
use Rattle.xsd_types.specs.State.{State}
use Rattle.xsd_parser.specs.Event.{Event}
use Rattle.xsd_parser.specs.Tape.{Judged, event, refused}
use Rattle.xsd_parser.specs.Handlers.{ok, refuse}
use Rattle.xsd_parser.specs.Step.{step}

pub data Accepted (lent : Lengths) : State → List Judged → State → Type 0 where
  none_left : {s : State} → Accepted lent s [] s
  one_more : {s s₁ s₂ : State} {e : Event} {js : List Judged} → step lent s e ≡ ok s₁ → Accepted lent s₁ js s₂ → Accepted lent s (event e ∷ js) s₂

pub data Refused (lent : Lengths) (s : State) : Judged → ℕ → Type 0 where
  by_form : {k : ℕ} → Refused lent s (refused k) k
  by_state : {e : Event} {k : ℕ} → step lent s e ≡ refuse k → Refused lent s (event e) k
