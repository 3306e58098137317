-- Reading records in order: the state stays proper and within the lent lengths, and the place counts the events done. Assumes nothing.
--     stopped k n s    a reading that ends with the number k at the place n in the state s
use mathlib.Core.Path.{◌≡◌, refl, ap, ◌∙◌}
use mathlib.Core.Bool.{true}
use mathlib.Core.List.{List, [], ◌∷◌}
use Prim.Native.Nat.{ℕ, suc, ◌+◌, ◌<◌}
use native.Mathlib.Omega.{arith}
use lib.ListN.{length}
use Rattle.sheet.specs.Lengths.{Lengths}
use Rattle.text.specs.Text.{Text, every}
use Rattle.xsd_types.specs.State.{State, proper}
use Rattle.xsd_types.specs.Sheet.{state_fits}
use Rattle.xsd_parser.specs.Event.{Event}
use Rattle.xsd_parser.specs.EventText.{event_ok, judged_ok}
use Rattle.xsd_parser.specs.Tape.{Judged, event, refused, records_from, records}
use Rattle.xsd_parser.specs.Handlers.{ok, refuse}
use Rattle.xsd_parser.specs.Step.{step}
use Rattle.xsd_parser.specs.Read.{Reading, read_records, read_state}
use Rattle.xsd_parser.proofs.Laws.Outcomes.{outcome-cases}
use Rattle.xsd_parser.proofs.Laws.EventTexts.{events-are-text}
use Rattle.xsd_parser.proofs.Laws.Steps.{step-proper, step_fits, step-events}
use Rattle.std.proofs.lemmas.Bool.{and_parts}

abbrev pub stopped : ℕ → ℕ → State → Reading
stopped k n s = record { answer = record { number = k; place = n }; state = s }

-- an accepted event, and a refused one
pub read_ok : (lent : Lengths) (n : ℕ) (s s' : State) (e : Event) (js : List Judged) → step lent s e ≡ ok s'
    → read_records lent n s (event e ∷ js) ≡ read_records lent (suc n) s' js
unfolding read_records
read_ok lent n s s' e js q = rw (q, read_records)

pub read-refuse : (lent : Lengths) (n : ℕ) (s : State) (e : Event) (js : List Judged) (k : ℕ) → step lent s e ≡ refuse k
    → read_records lent n s (event e ∷ js) ≡ stopped k n s
unfolding read_records
read-refuse lent n s e js k q = rw (q, read_records)

-- what each accepted event keeps, a reading keeps
abbrev pub StepKeeps : (State → Type 0) → Lengths → Type 0
StepKeeps P lent = (s : State) (e : Event) (s' : State) → event_ok e ≡ true → P s → step lent s e ≡ ok s' → P s'

pub read_keeps : (P : State → Type 0) (lent : Lengths) (n : ℕ) (s : State) (e : Event) (js : List Judged) → P s
    → ((x : State) → step lent s e ≡ ok x → P (read_records lent (suc n) x js).state) → P (read_records lent n s (event e ∷ js)).state
read_keeps P lent n s e js p h =
    outcome-cases (step lent s e) (λ x q. rw (read_ok lent n s x e js q) (h x q)) (λ r q. rw (read-refuse lent n s e js r q) p)

pub reads-keep : (P : State → Type 0) (lent : Lengths) → StepKeeps P lent → (n : ℕ) (s : State) (js : List Judged) → every judged_ok js ≡ true → P s
    → P (read_records lent n s js).state
unfolding read_records every judged_ok
reads-keep P lent h n s [] k p = p
reads-keep P lent h n s (refused r ∷ js) k p = p
reads-keep P lent h n s (event e ∷ js) k p =
    let w = and_parts (event_ok e) (every judged_ok js) k in
    read_keeps P lent n s e js p (λ x q. reads-keep P lent h (suc n) x js w.1 (h s e x w.0 p q))

pub reads-proper : (lent : Lengths) (n : ℕ) (s : State) (js : List Judged) → every judged_ok js ≡ true → proper s ≡ true
    → proper (read_records lent n s js).state ≡ true
reads-proper lent n s js k p = reads-keep (λ x. proper x ≡ true) lent (λ x e y h o q. step-proper lent x e y o h q) n s js k p

pub reads_fit : (lent : Lengths) (n : ℕ) (s : State) (js : List Judged) → every judged_ok js ≡ true → state_fits lent.rows lent.names s ≡ true
    → state_fits lent.rows lent.names (read_records lent n s js).state ≡ true
reads_fit lent n s js k p = reads-keep (λ x. state_fits lent.rows lent.names x ≡ true) lent (λ x e y h o q. step_fits lent x e y q) n s js k p

-- over a tape
pub read_state-proper : (lent : Lengths) (s : State) (text : Text) (marks : List ℕ) → proper s ≡ true → proper (read_state lent s text marks).state ≡ true
unfolding read_state
read_state-proper lent s text marks p = reads-proper lent 0 s (records text marks) (events-are-text text marks) p

pub read_state-fits : (lent : Lengths) (s : State) (text : Text) (marks : List ℕ) → state_fits lent.rows lent.names s ≡ true
    → state_fits lent.rows lent.names (read_state lent s text marks).state ≡ true
unfolding read_state
read_state-fits lent s text marks p = reads_fit lent 0 s (records text marks) (events-are-text text marks) p

-- the place counts the events done
pub read_records-place : (lent : Lengths) (n : ℕ) (s : State) (js : List Judged)
    → (read_records lent n s js).state.events + n ≡ s.events + (read_records lent n s js).answer.place
unfolding read_records
read_records-place lent n s [] = refl
read_records-place lent n s (refused r ∷ js) = refl
read_records-place lent n s (event e ∷ js) =
    outcome-cases (step lent s e)
    (λ x q. let i = read_records-place lent (suc n) x js in let k = step-events lent s e x q in rw (read_ok lent n s x e js q) (omega arith))
    (λ r q. rw (read-refuse lent n s e js r q))

-- "Added to events done before the call, it is the number in the run."
pub read_state-place : (lent : Lengths) (s : State) (text : Text) (marks : List ℕ)
    → s.events + (read_state lent s text marks).answer.place ≡ (read_state lent s text marks).state.events
unfolding read_state
read_state-place lent s text marks = let h = read_records-place lent 0 s (records text marks) in omega arith

-- no marks: accepted, nothing read, nothing changed
pub read_state-none : (lent : Lengths) (s : State) (text : Text) → read_state lent s text [] ≡ stopped 0 0 s
unfolding read_state read_records records records_from
read_state-none lent s text = refl

-- a refused event stands among the records
pub refused-place : (lent : Lengths) (n : ℕ) (s : State) (js : List Judged) → ((read_records lent n s js).answer.number ≡ 0 → ⊥) → (read_records lent n s js).answer.place < n + length js
unfolding read_records
refused-place lent n s [] h = absurd (h refl)
refused-place lent n s (refused r ∷ js) h = omega arith
refused-place lent n s (event e ∷ js) h =
    outcome-cases (step lent s e)
    (λ x q. let k = refused-place lent (suc n) x js (λ z. h (ap (λ r. r.answer.number) (read_ok lent n s x e js q) ∙ z)) in rw (read_ok lent n s x e js q) (omega arith))
    (λ r q. rw (read-refuse lent n s e js r q) (omega arith))
