-- The numbers that a reading on a state answers: 0, or 3 to 11. 1 and 2 are judged before it. Assumes nothing.
use mathlib.Core.Path.{◌≡◌, refl}
use mathlib.Core.List.{List, ◌∷◌}
use mathlib.Core.Logic.{◌⊎◌, inl, inr, ⊎_elim}
use Prim.Native.Nat.{ℕ, zero, suc}
use native.Mathlib.Omega.{arith}
use lib.ListN.{length}
use Rattle.sheet.specs.Lengths.{Lengths}
use Rattle.text.specs.Text.{Text}
use Rattle.xsd_types.specs.State.{State}
use Rattle.xsd_parser.specs.Event.{Event}
use Rattle.xsd_parser.specs.Tape.{Judged, event, records_from, records}
use Rattle.xsd_parser.specs.Step.{step}
use Rattle.xsd_parser.specs.Read.{read_records, read_state}
use Rattle.xsd_parser.proofs.Laws.Outcomes.{outcome-cases}
use Rattle.xsd_parser.proofs.Laws.Refusals.{Within, step-refusal, record-refusal}
use Rattle.xsd_parser.proofs.Laws.Records.{record-cases, records-finished, records-bad, records-next}
use Rattle.xsd_parser.proofs.Laws.Reads.{read_ok, read-refuse}

abbrev pub Answered : ℕ → Type 0
Answered k = (k ≡ 0) ⊎ Within 3 11 k

pub event-number : (lent : Lengths) (n : ℕ) (s : State) (e : Event) (js : List Judged)
    → ((x : State) → Answered (read_records lent (suc n) x js).answer.number) → Answered (read_records lent n s (event e ∷ js)).answer.number
event-number lent n s e js ih =
    outcome-cases (step lent s e)
    (λ x q. rw (read_ok lent n s x e js q) (ih x))
    (λ r q. rw (read-refuse lent n s e js r q) (let h = step-refusal lent s e r q in inr (omega arith)))

pub records_from-number : (fuel : ℕ) (lent : Lengths) (n : ℕ) (s : State) (text : Text) (marks : List ℕ)
    → Answered (read_records lent n s (records_from fuel text marks)).answer.number
unfolding read_records records_from
records_from-number zero lent n s text marks = inl refl
records_from-number (suc fuel) lent n s text marks =
    record-cases text marks
    (λ q. rw (records-finished fuel text marks q) (inl refl))
    (λ k q. rw (records-bad fuel text marks k q) (let h = record-refusal text marks k q in inr (omega arith)))
    (λ e rest q. rw (records-next fuel text marks e rest q)
    (event-number lent n s e (records_from fuel text rest) (λ x. records_from-number fuel lent (suc n) x text rest)))

pub reading-number : (lent : Lengths) (s : State) (text : Text) (marks : List ℕ) → Answered (read_state lent s text marks).answer.number
unfolding read_state records
reading-number lent s text marks = records_from-number (length marks) lent 0 s text marks

pub reading-not-two : (lent : Lengths) (s : State) (text : Text) (marks : List ℕ) → (read_state lent s text marks).answer.number ≡ 2 → ⊥
reading-not-two lent s text marks e = ⊎_elim (λ h. omega arith) (λ h. omega arith) (reading-number lent s text marks)
