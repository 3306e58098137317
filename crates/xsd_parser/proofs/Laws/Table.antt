-- Every reading comes under one case of the table, with that case's number, place and state. Each function of the definition that can refuse is taken
-- apart at its tests; the records go by the marks that are left. Assumes nothing.
use mathlib.Core.Path.{◌≡◌, refl, subst}
use mathlib.Core.Logic.{◌⊎◌, inl, inr, ⊎_elim}
use mathlib.Core.Bool.{true, false, ◌&&◌}
use mathlib.Core.List.{List, [], ◌∷◌}
use Prim.Native.Nat.{ℕ, zero, suc, ◌≤◌, ◌<◌, ◌*◌}
use native.Mathlib.Omega.{arith}
use lib.Dec.{eqb, ltb}
use lib.ListN.{length, drop}
use borrow.Author.Tests.{ltb-true, ltb-false, eqb-true, eqb-false}
use Rattle.text.specs.Text.{Text}
use Rattle.sheet.specs.Rows.{Sheet}
use Rattle.sheet.specs.Lengths.{tape_lengths, Lengths, lengths_of, good_lengths}
use Rattle.xsd_types.specs.State.{Reader, State}
use Rattle.xsd_types.specs.Sheet.{state_fits}
use Rattle.xsd_types.specs.Count.{good, state_of}
use Rattle.xsd_parser.specs.Event.{Event}
use Rattle.xsd_parser.specs.Tape.{Judged, event, Recorded, bad, next, all_inside, all_ascii, pair_count, pairs_of, form_test, tag_record, record1, records_from, records}
use Rattle.xsd_parser.specs.Handlers.{Outcome, ok, refuse}
use Rattle.xsd_parser.specs.Step.{handled, closed, tags_after, counted, room_for, step}
use Rattle.xsd_parser.specs.Read.{read_records, read_state, read}
use Rattle.xsd_parser.specs.Table.{RecordTable, EventTable, ReadsOn, ReadTable}
use Rattle.xsd_parser.proofs.Laws.Outcomes.{Gives, value, refusal, Any, gives-and_then, outcome-cases, gives-refusal}
use Rattle.xsd_parser.proofs.Laws.Refusals.{Within, handled-refusal}
use Rattle.xsd_parser.proofs.Laws.Records.{record-cases, records-finished, records-bad, records-next, next-shorter, nothing_left}
use Rattle.xsd_parser.proofs.Laws.Appended.{finished-empty}
use Rattle.xsd_parser.proofs.Laws.Reads.{read_ok, read-refuse}
use Rattle.std.proofs.lemmas.Bool.{cases_Bool}
use Rattle.text.proofs.Laws.Tests.{if-cases}

-- what an outcome gives, told by the outcome itself
gives_self : {A : Type 0} {Q : ℕ → Type 0} (o : Outcome A) → ((k : ℕ) → o ≡ refuse k → Q k) → Gives (λ x. o ≡ ok x) Q o
gives_self (ok x) h = value refl
gives_self (refuse r) h = refusal (h r refl)

-- ---- a record's refusal

tag-table : (text : Text) (kind count : ℕ) (rest : List ℕ) (k : ℕ) → form_test kind count (length rest) ≡ true → eqb kind 3 ≡ false
    → tag_record text kind (pairs_of (pair_count count) rest) (drop (2 * pair_count count) rest) ≡ bad k → RecordTable text (kind ∷ count ∷ rest) k
unfolding tag_record
tag-table text kind count rest k f c q =
    let ps = pairs_of (pair_count count) rest in
    let apart : kind ≡ 3 → ⊥ = eqb-false kind 3 c in
    if-cases (λ (r : Recorded). r ≡ bad k → RecordTable text (kind ∷ count ∷ rest) k) (all_inside (length text) 0 ps)
    (λ i. if-cases (λ (r : Recorded). r ≡ bad k → RecordTable text (kind ∷ count ∷ rest) k) (all_ascii text ps)
    (λ a e. let z : ◌≡◌ {A = ℕ} 0 1 = cc in absurd (omega arith))
    (λ a e. subst (RecordTable text (kind ∷ count ∷ rest)) (cc) (RecordTable.high f apart i a)))
    (λ i e. subst (RecordTable text (kind ∷ count ∷ rest)) (cc) (RecordTable.outside f apart i))
    q

pub record-table : (text : Text) (marks : List ℕ) (k : ℕ) → record1 text marks ≡ bad k → RecordTable text marks k
unfolding record1
record-table text [] k q = let z : ◌≡◌ {A = ℕ} 0 1 = cc in absurd (omega arith)
record-table text (kind ∷ []) k q = subst (RecordTable text (kind ∷ [])) (cc) RecordTable.cut_in_head
record-table text (kind ∷ count ∷ rest) k q =
    if-cases (λ (r : Recorded). r ≡ bad k → RecordTable text (kind ∷ count ∷ rest) k) (form_test kind count (length rest))
    (λ f. if-cases (λ (r : Recorded). r ≡ bad k → RecordTable text (kind ∷ count ∷ rest) k) (eqb kind 3)
    (λ c e. let z : ◌≡◌ {A = ℕ} 0 1 = cc in absurd (omega arith))
    (λ c e. tag-table text kind count rest k f c e))
    (λ f e. subst (RecordTable text (kind ∷ count ∷ rest)) (cc) (RecordTable.bad_form f))
    q

-- ---- an event's

close-table : (lent : Lengths) (s : State) (k n : ℕ) → s.events < 1000000 → s.open_tags ≡ n → closed n ≡ refuse k → EventTable lent s Event.close k
unfolding closed
close-table lent s k zero h o q = subst (EventTable lent s Event.close) (cc) (EventTable.none_open h o)
close-table lent s k (suc n) h o q = let z : ◌≡◌ {A = ℕ} 0 1 = cc in absurd (omega arith)

tags-table : (lent : Lengths) (s : State) (e : Event) (k : ℕ) → s.events < 1000000 → tags_after e s.open_tags ≡ refuse k → EventTable lent s e k
unfolding tags_after
tags-table lent s (Event.start t) k h q =
    if-cases (λ (o : Outcome ℕ). o ≡ refuse k → EventTable lent s (Event.start t) k) (ltb s.open_tags 255)
    (λ y e. let z : ◌≡◌ {A = ℕ} 0 1 = cc in absurd (omega arith))
    (λ y e. subst (EventTable lent s (Event.start t)) (cc) (EventTable.all_open h (ltb-false s.open_tags 255 y)))
    q
tags-table lent s (Event.empty t) k h q = let z : ◌≡◌ {A = ℕ} 0 1 = cc in absurd (omega arith)
tags-table lent s Event.close k h q = close-table lent s k s.open_tags h refl q

nine-or-ten : (k : ℕ) → Within 9 10 k → (k ≡ 9) ⊎ (k ≡ 10)
nine-or-ten k w = ⊎_elim (λ h. inl (eqb-true k 9 h)) (λ h. let u = eqb-false k 9 h in inr (omega arith)) (cases_Bool (eqb k 9))

handled-table : (lent : Lengths) (s : State) (e : Event) (n k : ℕ) → s.events < 1000000 → tags_after e s.open_tags ≡ ok n
    → handled s.by_standard s.events e s.reader ≡ refuse k → EventTable lent s e k
handled-table lent s e n k h o q =
    let w = gives-refusal (handled-refusal s.by_standard s.events e s.reader) q in
    ⊎_elim (λ (nine : k ≡ 9). rw nine (EventTable.missing n h o (rw nine at q))) (λ (ten : k ≡ 10). rw ten (EventTable.invalid n h o (rw ten at q)))
    (nine-or-ten k w)

room-table : (lent : Lengths) (s : State) (e : Event) (n : ℕ) (r : Reader) → s.events < 1000000 → tags_after e s.open_tags ≡ ok n
    → handled s.by_standard s.events e s.reader ≡ ok r → Gives Any (EventTable lent s e) (room_for lent (counted s n r))
unfolding room_for
room-table lent s e n r h o q =
    if-cases (Gives Any (EventTable lent s e)) (state_fits lent.rows lent.names (counted s n r)) (λ f. value tt) (λ f. refusal (EventTable.tight n r h o q f))

step-table : (lent : Lengths) (s : State) (e : Event) → Gives Any (EventTable lent s e) (step lent s e)
unfolding step
step-table lent s e =
    if-cases (Gives Any (EventTable lent s e)) (ltb s.events 1000000)
    (λ y. let h = ltb-true s.events 1000000 y in
    gives-and_then (gives_self (tags_after e s.open_tags) λ k q. tags-table lent s e k h q) λ n o.
    gives-and_then (gives_self (handled s.by_standard s.events e s.reader) λ k q. handled-table lent s e n k h o q) λ r q.
    room-table lent s e n r h o q)
    (λ y. refusal (EventTable.events_done (ltb-false s.events 1000000 y)))

pub event-table : (lent : Lengths) (s : State) (e : Event) (k : ℕ) → step lent s e ≡ refuse k → EventTable lent s e k
event-table lent s e k q = gives-refusal (step-table lent s e) q

-- ---- the records in order

step-reads : (lent : Lengths) (text : Text) (n : ℕ) (s : State) (marks : List ℕ) (e : Event) (rest : List ℕ) (js : List Judged) → record1 text marks ≡ next e rest
    → ((after : State) → ReadsOn lent text (suc n) after rest (read_records lent (suc n) after js)) → ReadsOn lent text n s marks (read_records lent n s (event e ∷ js))
step-reads lent text n s marks e rest js q ih =
    outcome-cases (step lent s e)
    (λ after o. rw (read_ok lent n s after e js o) (ReadsOn.onward e rest after q o (ih after)))
    (λ k o. rw (read-refuse lent n s e js k o) (ReadsOn.refused_event e rest q (event-table lent s e k o)))

reads-from : (fuel : ℕ) (lent : Lengths) (text : Text) (n : ℕ) (s : State) (marks : List ℕ) → length marks ≤ fuel
    → ReadsOn lent text n s marks (read_records lent n s (records_from fuel text marks))
unfolding read_records
reads-from zero lent text n s [] h = rw (nothing_left zero text [] h) ReadsOn.all_read
reads-from zero lent text n s (m ∷ ms) h = absurd (omega arith)
reads-from (suc fuel) lent text n s marks h =
    record-cases text marks
    (λ q. rw (records-finished fuel text marks q, finished-empty text marks q) ReadsOn.all_read)
    (λ k q. rw (records-bad fuel text marks k q) (ReadsOn.bad_record (record-table text marks k q)))
    (λ e rest q. let w = next-shorter text marks e rest q in rw (records-next fuel text marks e rest q)
    (step-reads lent text n s marks e rest (records_from fuel text rest) q (λ after. reads-from fuel lent text (suc n) after rest (omega arith))))

pub read_table : (x : Sheet) (text : Text) (marks : List ℕ) → ReadTable x text marks (read x text marks)
unfolding read read_state records
read_table x text marks =
    ⊎_elim (λ h. ⊎_elim (λ g. ReadTable.judged h g _ (reads-from (length marks) (lengths_of x) text 0 (state_of x) marks (omega arith)) (rw (h, g)))
    (λ g. ReadTable.not_good h g (rw (h, g))) (cases_Bool (good x)))
    (λ h. ReadTable.lengths h (rw h))
    (cases_Bool (good_lengths (lengths_of x) && tape_lengths (length text) (length marks)))
