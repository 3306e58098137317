-- The cut behind a refused event: the marks behind are dropped, unless the refusal is that of a record which the cut itself ended. Assumes nothing.
use mathlib.Core.Path.{◌≡◌, refl, sym, ap, ◌∙◌}
use mathlib.Core.Bool.{true, false, not, false≢true}
use mathlib.Core.List.{List, [], ◌∷◌, ◌++◌}
use Prim.Native.Nat.{ℕ, zero, suc, ◌+◌, ◌≤◌}
use native.Mathlib.Omega.{arith}
use lib.ListN.{length, length-append}
use borrow.Author.Tests.{not-true}
use Rattle.sheet.specs.Lengths.{Lengths}
use Rattle.text.specs.Text.{Text}
use Rattle.std.proofs.lemmas.Bool.{false_from_ne_true, and_parts}
use Rattle.xsd_types.specs.State.{State}
use Rattle.xsd_parser.specs.Event.{Event}
use Rattle.xsd_parser.specs.Tape.{finished, bad, next, record1, Judged, event, records_from, records}
use Rattle.xsd_parser.specs.Handlers.{ok}
use Rattle.xsd_parser.specs.Step.{step}
use Rattle.xsd_parser.specs.Read.{read_records, read_state}
use Rattle.xsd_parser.specs.Whole.{all_events, cut_short, whole_from, whole_records}
use Rattle.xsd_parser.proofs.Laws.Outcomes.{outcome-cases}
use Rattle.xsd_parser.proofs.Laws.Records.{record-cases, records-bad, records-next, records-none, next-shorter}
use Rattle.xsd_parser.proofs.Laws.Reads.{read_ok, read-refuse}
use Rattle.xsd_parser.proofs.Laws.Cut.{events-rest, events-not-bad}
use Rattle.xsd_parser.proofs.Laws.Appended.{longer, record1-longer, short-refused, next-whole, next-longer, finished-empty, none-of-length}

-- whole records, one by one
pub whole-first : (fuel : ℕ) (text : Text) (marks : List ℕ) → whole_from (suc fuel) text marks ≡ true → cut_short marks ≡ false
unfolding whole_from
whole-first fuel text marks h = not-true (cut_short marks) (and_parts (not (cut_short marks)) _ h).0

pub whole-rest : (fuel : ℕ) (text : Text) (marks : List ℕ) (e : Event) (rest : List ℕ) → record1 text marks ≡ next e rest → whole_from (suc fuel) text marks ≡ true
    → whole_from fuel text rest ≡ true
unfolding whole_from
whole-rest fuel text marks e rest q h = (and_parts (not (cut_short marks)) (whole_from fuel text rest) (rw (q, whole_from) at h)).1

-- a refused record that is whole stays refused with more marks behind it
pub bad-some : (text : Text) (marks : List ℕ) (k : ℕ) → record1 text marks ≡ bad k → marks ≡ [] → ⊥
unfolding record1
bad-some text marks k q z =
    let p : finished ≡ bad k = rw z at q in
    let y : ◌≡◌ {A = ℕ} 0 1 = cc in omega arith

pub bad-longer : (text : Text) (marks m : List ℕ) (k : ℕ) → record1 text marks ≡ bad k → cut_short marks ≡ false → record1 text (marks ++ m) ≡ bad k
bad-longer text marks m k q h = record1-longer text marks m (bad-some text marks k q) h ∙ ap (longer m) q

-- 3 is the only refusal of a record cut short
pub bad-whole : (fuel : ℕ) (text : Text) (marks : List ℕ) (k : ℕ) → record1 text marks ≡ bad k → (k ≡ 3 → whole_from (suc fuel) text marks ≡ true) → cut_short marks ≡ false
bad-whole fuel text marks k q w =
    false_from_ne_true (cut_short marks) λ h.
    let b = short-refused text marks h in
    let z : k ≡ 3 = cc in
    false≢true (sym (whole-first fuel text marks (w z)) ∙ h)

-- the first piece's reading, and the whole tape's, from the records on
pub refused-event : (lent : Lengths) (n : ℕ) (s : State) (e : Event) (js ks : List Judged)
    → ((x : State) → step lent s e ≡ ok x → read_records lent (suc n) x ks ≡ read_records lent (suc n) x js)
    → read_records lent n s (event e ∷ ks) ≡ read_records lent n s (event e ∷ js)
refused-event lent n s e js ks ih =
    outcome-cases (step lent s e)
    (λ x q. rw (read_ok lent n s x e js q, read_ok lent n s x e ks q) (ih x q))
    (λ k q. rw (read-refuse lent n s e js k q, read-refuse lent n s e ks k q))

-- the number that a reading of the marks answers
abbrev pub number_from : ℕ → Lengths → ℕ → State → Text → List ℕ → ℕ
number_from fuel lent n s text marks = (read_records lent n s (records_from fuel text marks)).answer.number

pub number-next : (f : ℕ) (lent : Lengths) (n : ℕ) (s x : State) (text : Text) (marks : List ℕ) (e : Event) (rest : List ℕ) → record1 text marks ≡ next e rest
    → step lent s e ≡ ok x → number_from (suc f) lent n s text marks ≡ number_from f lent (suc n) x text rest
number-next f lent n s x text marks e rest q o =
    ap (λ js. (read_records lent n s js).answer.number) (records-next f text marks e rest q)
    ∙ ap (λ r. r.answer.number) (read_ok lent n s x e (records_from f text rest) o)

pub number-bad : (f : ℕ) (lent : Lengths) (n : ℕ) (s : State) (text : Text) (marks : List ℕ) (k : ℕ) → record1 text marks ≡ bad k
    → number_from (suc f) lent n s text marks ≡ k
unfolding read_records
number-bad f lent n s text marks k q = ap (λ js. (read_records lent n s js).answer.number) (records-bad f text marks k q)

pub none-zero : (f : ℕ) (lent : Lengths) (n : ℕ) (s : State) (text : Text) (marks : List ℕ) → marks ≡ [] → number_from f lent n s text marks ≡ 0
unfolding read_records
none-zero f lent n s text marks z =
    ap (λ m. (read_records lent n s (records_from f text m)).answer.number) z ∙ ap (λ js. (read_records lent n s js).answer.number) (records-none f text)

-- a refused record, and an event with the rest, in the whole tape
pub refused-bad : (f g : ℕ) (lent : Lengths) (n : ℕ) (s : State) (text : Text) (m₁ m₂ : List ℕ) (k : ℕ) → record1 text m₁ ≡ bad k
    → (number_from (suc f) lent n s text m₁ ≡ 3 → whole_from (suc f) text m₁ ≡ true) → records_from (suc g) text (m₁ ++ m₂) ≡ records_from (suc f) text m₁
refused-bad f g lent n s text m₁ m₂ k q w =
    let c = bad-whole f text m₁ k q (λ z. w (number-bad f lent n s text m₁ k q ∙ z)) in
    rw (records-bad g text (m₁ ++ m₂) k (bad-longer text m₁ m₂ k q c), records-bad f text m₁ k q)

pub refused-next : (f g : ℕ) (lent : Lengths) (n : ℕ) (s : State) (text : Text) (m₁ m₂ : List ℕ) (e : Event) (rest : List ℕ) → record1 text m₁ ≡ next e rest
    → ((x : State) → step lent s e ≡ ok x → read_records lent (suc n) x (records_from g text (rest ++ m₂)) ≡ read_records lent (suc n) x (records_from f text rest))
    → read_records lent n s (records_from (suc g) text (m₁ ++ m₂)) ≡ read_records lent n s (records_from (suc f) text m₁)
refused-next f g lent n s text m₁ m₂ e rest q h =
    rw (records-next g text (m₁ ++ m₂) e (rest ++ m₂) (next-longer text m₁ m₂ e rest q), records-next f text m₁ e rest q)
    (refused-event lent n s e (records_from f text rest) (records_from g text (rest ++ m₂)) h)

pub cut-refused_from : (f g : ℕ) (lent : Lengths) (n : ℕ) (s : State) (text : Text) (m₁ m₂ : List ℕ) → length m₁ ≤ f → length m₁ + length m₂ ≤ g
    → (number_from f lent n s text m₁ ≡ 0 → ⊥) → (number_from f lent n s text m₁ ≡ 3 → whole_from f text m₁ ≡ true)
    → read_records lent n s (records_from g text (m₁ ++ m₂)) ≡ read_records lent n s (records_from f text m₁)
cut-refused_from zero g lent n s text m₁ m₂ h k r w = absurd (r (none-zero zero lent n s text m₁ (none-of-length m₁ h)))
cut-refused_from (suc f) zero lent n s text m₁ m₂ h k r w = absurd (r (none-zero (suc f) lent n s text m₁ (none-of-length m₁ (omega arith))))
cut-refused_from (suc f) (suc g) lent n s text m₁ m₂ h k r w =
    record-cases text m₁ (λ q. absurd (r (none-zero (suc f) lent n s text m₁ (finished-empty text m₁ q))))
    (λ j q. ap (read_records lent n s) (refused-bad f g lent n s text m₁ m₂ j q w)) λ e rest q.
    let l = next-shorter text m₁ e rest q in refused-next f g lent n s text m₁ m₂ e rest q λ x o.
    let p = number-next f lent n s x text m₁ e rest q o in
    cut-refused_from f g lent (suc n) x text rest m₂ (omega arith) (omega arith) (λ z. r (p ∙ z)) (λ z. whole-rest f text m₁ e rest q (w (p ∙ z)))

-- where the first piece refuses an event, the whole tape does, at the same place and with the same state. With 3, the refusal must not be that of a record
-- which lies across the cut
pub cut-refused : (lent : Lengths) (s : State) (text : Text) (m₁ m₂ : List ℕ) → ((read_state lent s text m₁).answer.number ≡ 0 → ⊥)
    → ((read_state lent s text m₁).answer.number ≡ 3 → whole_records text m₁ ≡ true) → read_state lent s text (m₁ ++ m₂) ≡ read_state lent s text m₁
unfolding read_state records whole_records
cut-refused lent s text m₁ m₂ r w =
    cut-refused_from (length m₁) (length (m₁ ++ m₂)) lent 0 s text m₁ m₂ (omega arith) (rw (length-append m₁ m₂) (omega arith)) r w

-- a tape whose records are all events is whole
pub events-whole_from : (f : ℕ) (text : Text) (marks : List ℕ) → all_events (records_from f text marks) ≡ true → whole_from f text marks ≡ true
unfolding whole_from cut_short record1
events-whole_from zero text marks a = refl
events-whole_from (suc f) text marks a =
    record-cases text marks
    (λ q. rw (finished-empty text marks q))
    (λ k q. absurd (events-not-bad f text marks k q a))
    (λ e rest q. rw (next-whole text marks e rest q, q, whole_from) (events-whole_from f text rest (events-rest f text marks e rest q a)))

empty-records : (f : ℕ) (text : Text) (marks : List ℕ) → marks ≡ [] → records_from f text marks ≡ []
empty-records f text marks z = ap (records_from f text) z ∙ records-none f text

-- the records of whole marks stand in front of those with more marks behind
Front : ℕ → ℕ → Text → List ℕ → List ℕ → Type 0
Front f g text m₁ m₂ = (js : List Judged) × (records_from g text (m₁ ++ m₂) ≡ records_from f text m₁ ++ js)

front-empty : (f g : ℕ) (text : Text) (m₁ m₂ : List ℕ) → m₁ ≡ [] → Front f g text m₁ m₂
unfolding Front
front-empty f g text m₁ m₂ z = (records_from g text (m₁ ++ m₂), rw (empty-records f text m₁ z))

whole-front : (f g : ℕ) (text : Text) (m₁ m₂ : List ℕ) → length m₁ ≤ f → length m₁ + length m₂ ≤ g → whole_from f text m₁ ≡ true → Front f g text m₁ m₂
unfolding Front
whole-front zero g text m₁ m₂ h k w = front-empty zero g text m₁ m₂ (none-of-length m₁ h)
whole-front (suc f) zero text m₁ m₂ h k w = front-empty (suc f) zero text m₁ m₂ (none-of-length m₁ (omega arith))
whole-front (suc f) (suc g) text m₁ m₂ h k w =
    record-cases text m₁ (λ q. front-empty (suc f) (suc g) text m₁ m₂ (finished-empty text m₁ q))
    (λ j q. ([], rw (records-bad g text (m₁ ++ m₂) j (bad-longer text m₁ m₂ j q (whole-first f text m₁ w)), records-bad f text m₁ j q))) λ e rest q.
    let l = next-shorter text m₁ e rest q in
    let n = whole-front f g text rest m₂ (omega arith) (omega arith) (whole-rest f text m₁ e rest q w) in
    (n.0, rw (records-next g text (m₁ ++ m₂) e (rest ++ m₂) (next-longer text m₁ m₂ e rest q), records-next f text m₁ e rest q) (ap (λ js. event e ∷ js) n.1))

pub whole-records : (text : Text) (m₁ m₂ : List ℕ) → whole_records text m₁ ≡ true → (js : List Judged) × (records text (m₁ ++ m₂) ≡ records text m₁ ++ js)
unfolding records whole_records Front
whole-records text m₁ m₂ w = whole-front (length m₁) (length (m₁ ++ m₂)) text m₁ m₂ (omega arith) (rw (length-append m₁ m₂) (omega arith)) w

-- ---- marks that are whole, from a place behind some events

-- what is whole under a fuel that reaches the end is whole under any
pub whole-fuel : (f g : ℕ) (text : Text) (marks : List ℕ) → length marks ≤ f → whole_from f text marks ≡ true → whole_from g text marks ≡ true
unfolding whole_from cut_short record1
whole-fuel f zero text marks h w = refl
whole-fuel zero (suc g) text marks h w = rw (none-of-length marks h)
whole-fuel (suc f) (suc g) text marks h w =
    record-cases text marks
    (λ q. rw (finished-empty text marks q))
    (λ k q. rw (whole-first f text marks w, q))
    (λ e rest q.
    let l = next-shorter text marks e rest q in
    rw (whole-first f text marks w, q) (whole-fuel f g text rest (omega arith) (whole-rest f text marks e rest q w)))

whole-behind-none : (g : ℕ) (text : Text) (m₁ m₂ : List ℕ) → m₁ ≡ [] → length m₁ + length m₂ ≤ g → whole_from g text (m₁ ++ m₂) ≡ true → whole_from (length m₂) text m₂ ≡ true
whole-behind-none g text m₁ m₂ z k w =
    let shorter : length m₂ ≤ g = omega (arith, k) in
    let rest : whole_from g text m₂ ≡ true = rw z at w in
    whole-fuel g (length m₂) text m₂ shorter rest

whole-behind_from : (f g : ℕ) (text : Text) (m₁ m₂ : List ℕ) → length m₁ ≤ f → length m₁ + length m₂ ≤ g → all_events (records_from f text m₁) ≡ true
    → whole_from g text (m₁ ++ m₂) ≡ true → whole_from (length m₂) text m₂ ≡ true
whole-behind_from zero g text m₁ m₂ h k a w = whole-behind-none g text m₁ m₂ (none-of-length m₁ h) k w
whole-behind_from (suc f) zero text m₁ m₂ h k a w = whole-behind-none zero text m₁ m₂ (none-of-length m₁ (omega arith)) k w
whole-behind_from (suc f) (suc g) text m₁ m₂ h k a w =
    record-cases text m₁
    (λ q. whole-behind-none (suc g) text m₁ m₂ (finished-empty text m₁ q) k w)
    (λ j q. absurd (events-not-bad f text m₁ j q a))
    (λ e rest q.
    let l = next-shorter text m₁ e rest q in
    whole-behind_from f g text rest m₂ (omega arith) (omega arith) (events-rest f text m₁ e rest q a)
    (whole-rest g text (m₁ ++ m₂) e (rest ++ m₂) (next-longer text m₁ m₂ e rest q) w))

-- where whole marks begin with records that are all events, those behind them are whole
pub whole-behind : (text : Text) (m₁ m₂ : List ℕ) → all_events (records text m₁) ≡ true → whole_records text (m₁ ++ m₂) ≡ true → whole_records text m₂ ≡ true
unfolding records whole_records
whole-behind text m₁ m₂ a w =
    whole-behind_from (length m₁) (length (m₁ ++ m₂)) text m₁ m₂ (omega arith) (rw (length-append m₁ m₂) (omega arith)) a w
