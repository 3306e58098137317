-- "So .. a tape may be cut between any events over the same text: up to its first refused event the sheet is the same, and that event has the same
-- refusal and the same number in the run." Assumes nothing.
use mathlib.Core.Path.{◌≡◌, ap, ◌∙◌}
use mathlib.Core.Bool.{true, false≢true}
use mathlib.Core.List.{List, [], ◌∷◌, ◌++◌}
use Prim.Native.Nat.{ℕ, zero, suc, ◌+◌, ◌≤◌}
use native.Mathlib.Omega.{arith}
use lib.ListN.{length, length-append}
use Rattle.sheet.specs.Lengths.{Lengths}
use Rattle.text.specs.Text.{Text}
use Rattle.xsd_types.specs.State.{State}
use Rattle.xsd_parser.specs.Event.{Event}
use Rattle.xsd_parser.specs.Tape.{bad, next, record1, Judged, event, refused, records_from, records}
use Rattle.xsd_parser.specs.Step.{step}
use Rattle.xsd_parser.specs.Read.{read_records, read_state}
use Rattle.xsd_parser.specs.Accepted.{Accepted, none_left, one_more}
use Rattle.xsd_parser.specs.Whole.{all_events}
use Rattle.xsd_parser.proofs.Laws.Outcomes.{outcome-cases}
use Rattle.xsd_parser.proofs.Laws.Refusals.{step-refusal, record-refusal}
use Rattle.xsd_parser.proofs.Laws.Records.{record-cases, records-finished, records-bad, records-next, records-none, next-shorter, fuel-spare}
use Rattle.xsd_parser.proofs.Laws.Reads.{read_ok, read-refuse}
use Rattle.xsd_parser.proofs.Laws.Accepts.{later, read_records-append, read_records-accepted, read_records-later, accepted-events}
use Rattle.xsd_parser.proofs.Laws.Appended.{next-longer, finished-empty, none-of-length}

-- the records of two pieces
pub cut-none : (f g : ℕ) (text : Text) (m₁ m₂ : List ℕ) → m₁ ≡ [] → length m₂ ≤ g → records_from g text (m₁ ++ m₂) ≡ records_from f text m₁ ++ records text m₂
unfolding records
cut-none f g text m₁ m₂ q h = rw (q, records-none f text) (fuel-spare g (length m₂) text m₂ h (omega arith))

pub cut-next : (f g : ℕ) (text : Text) (m₁ m₂ : List ℕ) (e : Event) (rest : List ℕ) → record1 text m₁ ≡ next e rest
    → records_from g text (rest ++ m₂) ≡ records_from f text rest ++ records text m₂
    → records_from (suc g) text (m₁ ++ m₂) ≡ records_from (suc f) text m₁ ++ records text m₂
cut-next f g text m₁ m₂ e rest q h =
    rw (records-next g text (m₁ ++ m₂) e (rest ++ m₂) (next-longer text m₁ m₂ e rest q), records-next f text m₁ e rest q) (ap (λ js. event e ∷ js) h)

-- where all records are events, so are those of the rest, and none is refused for its form
pub events-rest : (f : ℕ) (text : Text) (marks : List ℕ) (e : Event) (rest : List ℕ) → record1 text marks ≡ next e rest
    → all_events (records_from (suc f) text marks) ≡ true → all_events (records_from f text rest) ≡ true
unfolding all_events
events-rest f text marks e rest q a = rw (records-next f text marks e rest q) at a

pub events-not-bad : (f : ℕ) (text : Text) (marks : List ℕ) (k : ℕ) → record1 text marks ≡ bad k → all_events (records_from (suc f) text marks) ≡ true → ⊥
unfolding all_events
events-not-bad f text marks k q a = false≢true (rw (records-bad f text marks k q) at a)

pub cut-records_from : (f g : ℕ) (text : Text) (m₁ m₂ : List ℕ) → length m₁ ≤ f → length m₁ + length m₂ ≤ g → all_events (records_from f text m₁) ≡ true
    → records_from g text (m₁ ++ m₂) ≡ records_from f text m₁ ++ records text m₂
cut-records_from zero g text m₁ m₂ h k a = cut-none zero g text m₁ m₂ (none-of-length m₁ h) (omega arith)
cut-records_from (suc f) zero text m₁ m₂ h k a = cut-none (suc f) zero text m₁ m₂ (none-of-length m₁ (omega arith)) (omega arith)
cut-records_from (suc f) (suc g) text m₁ m₂ h k a =
    record-cases text m₁ (λ q. cut-none (suc f) (suc g) text m₁ m₂ (finished-empty text m₁ q) (omega arith)) (λ n q. absurd (events-not-bad f text m₁ n q a))
    λ e rest q. let l = next-shorter text m₁ e rest q in
    cut-next f g text m₁ m₂ e rest q (cut-records_from f g text rest m₂ (omega arith) (omega arith) (events-rest f text m₁ e rest q a))

pub cut-records : (text : Text) (m₁ m₂ : List ℕ) → all_events (records text m₁) ≡ true → records text (m₁ ++ m₂) ≡ records text m₁ ++ records text m₂
unfolding records
cut-records text m₁ m₂ a =
    cut-records_from (length m₁) (length (m₁ ++ m₂)) text m₁ m₂ (omega arith) (rw (length-append m₁ m₂) (omega arith)) a

-- a reading that answers 0 has accepted all records
abbrev pub ZeroAccepts : Lengths → ℕ → State → List Judged → Type 0
ZeroAccepts lent n s js = (read_records lent n s js).answer.number ≡ 0 → Accepted lent s js (read_records lent n s js).state

pub event-accepted : (lent : Lengths) (n : ℕ) (s : State) (e : Event) (js : List Judged) → ((x : State) → ZeroAccepts lent (suc n) x js)
    → ZeroAccepts lent n s (event e ∷ js)
event-accepted lent n s e js ih h =
    outcome-cases (step lent s e)
    (λ x q. rw (read_ok lent n s x e js q) (one_more q (ih x (rw (read_ok lent n s x e js q) at h))))
    (λ k q. let z : k ≡ 0 = rw (read-refuse lent n s e js k q) at h in let w = step-refusal lent s e k q in absurd (omega arith))

pub bad-not-accepted : (lent : Lengths) (n : ℕ) (s : State) (text : Text) (marks : List ℕ) (k : ℕ) → record1 text marks ≡ bad k
    → ZeroAccepts lent n s (refused k ∷ [])
unfolding read_records
bad-not-accepted lent n s text marks k q h = let w = record-refusal text marks k q in absurd (omega arith)

pub zero-accepted_from : (fuel : ℕ) (lent : Lengths) (n : ℕ) (s : State) (text : Text) (marks : List ℕ) → ZeroAccepts lent n s (records_from fuel text marks)
unfolding read_records records_from
zero-accepted_from zero lent n s text marks = λ h. none_left
zero-accepted_from (suc fuel) lent n s text marks =
    record-cases text marks
    (λ q. rw (records-finished fuel text marks q) (λ h. none_left))
    (λ k q. rw (records-bad fuel text marks k q) (bad-not-accepted lent n s text marks k q))
    (λ e rest q. rw (records-next fuel text marks e rest q) (event-accepted lent n s e _ (λ x. zero-accepted_from fuel lent (suc n) x text rest)))

pub zero-accepted : (lent : Lengths) (s : State) (text : Text) (marks : List ℕ) → (read_state lent s text marks).answer.number ≡ 0
    → Accepted lent s (records text marks) (read_state lent s text marks).state
unfolding read_state records
zero-accepted lent s text marks h = zero-accepted_from (length marks) lent 0 s text marks h

pub accepted-place : (lent : Lengths) (s s₁ : State) (text : Text) (marks : List ℕ) → Accepted lent s (records text marks) s₁
    → (read_state lent s text marks).answer.place ≡ length (records text marks)
unfolding read_state
accepted-place lent s s₁ text marks a =
    let h : (read_records lent 0 s (records text marks)).answer.place ≡ 0 + length (records text marks) = ap (λ r. r.answer.place) (read_records-accepted lent 0 a) in
    omega arith

pub cut-joined : (lent : Lengths) (s s₁ : State) (text : Text) (m₁ m₂ : List ℕ) → Accepted lent s (records text m₁) s₁
    → read_state lent s text (m₁ ++ m₂) ≡ later (read_state lent s text m₁).answer.place (read_state lent s₁ text m₂)
unfolding read_state
cut-joined lent s s₁ text m₁ m₂ a =
    let p = (read_state lent s text m₁).answer.place in
    let k : 0 + length (records text m₁) ≡ p + 0 = omega (arith, accepted-place lent s s₁ text m₁ a) in
    rw (cut-records text m₁ m₂ (accepted-events a))
    (read_records-append lent 0 (records text m₂) a ∙ rw k (read_records-later lent p 0 s₁ (records text m₂)))

-- where the first piece is accepted, the second is read from the state reached, and the places add up
pub cut-accepted : (lent : Lengths) (s : State) (text : Text) (m₁ m₂ : List ℕ) → (read_state lent s text m₁).answer.number ≡ 0
    → read_state lent s text (m₁ ++ m₂) ≡ later (read_state lent s text m₁).answer.place (read_state lent (read_state lent s text m₁).state text m₂)
cut-accepted lent s text m₁ m₂ h = cut-joined lent s (read_state lent s text m₁).state text m₁ m₂ (zero-accepted lent s text m₁ h)
