-- The records of a tape one by one, and that spare fuel changes nothing. Assumes nothing.
use mathlib.Core.Path.{◌≡◌, refl, ap}
use mathlib.Core.List.{List, [], ◌∷◌}
use Prim.Native.Nat.{ℕ, zero, suc, ◌+◌, ◌*◌, ◌≤◌}
use native.Mathlib.Omega.{arith}
use lib.Dec.{eqb}
use lib.ListN.{length, drop, length-drop}
use Rattle.text.specs.Text.{Text}
use Rattle.xsd_parser.specs.Event.{Event}
use Rattle.xsd_parser.specs.Tape.{Pair, all_inside, all_ascii, Recorded, finished, bad, next, form_test, pair_count, pairs_of, tag_record, record1, event, refused, records_from}
use Rattle.text.proofs.Laws.Tests.{if-either}

-- marks have no first record, a bad one, or an event
pub record-which : {C : Type 0} (r : Recorded) → (r ≡ finished → C) → ((k : ℕ) → r ≡ bad k → C) → ((e : Event) (rest : List ℕ) → r ≡ next e rest → C) → C
record-which finished f g h = f refl
record-which (bad k) f g h = g k refl
record-which (next e rest) f g h = h e rest refl

pub record-cases : {C : Type 0} (text : Text) (marks : List ℕ) → (record1 text marks ≡ finished → C) → ((k : ℕ) → record1 text marks ≡ bad k → C)
    → ((e : Event) (rest : List ℕ) → record1 text marks ≡ next e rest → C) → C
record-cases text marks f g h = record-which (record1 text marks) f g h

pub records-finished : (fuel : ℕ) (text : Text) (marks : List ℕ) → record1 text marks ≡ finished → records_from (suc fuel) text marks ≡ []
unfolding records_from
records-finished fuel text marks q = rw (q, records_from)

pub records-bad : (fuel : ℕ) (text : Text) (marks : List ℕ) (k : ℕ) → record1 text marks ≡ bad k → records_from (suc fuel) text marks ≡ refused k ∷ []
unfolding records_from
records-bad fuel text marks k q = rw (q, records_from)

pub records-next : (fuel : ℕ) (text : Text) (marks : List ℕ) (e : Event) (rest : List ℕ) → record1 text marks ≡ next e rest
    → records_from (suc fuel) text marks ≡ event e ∷ records_from fuel text rest
unfolding records_from
records-next fuel text marks e rest q = rw (q, records_from)

-- a record takes two numbers or more
abbrev pub Shorter : ℕ → Recorded → Type 0
Shorter n r = (e : Event) (rest : List ℕ) → r ≡ next e rest → length rest ≤ n

pub no-shorter : (n : ℕ) (r : Recorded) → ((e : Event) (rest : List ℕ) → r ≡ next e rest → ◌≡◌ {A = ℕ} 0 1) → Shorter n r
no-shorter n r h e rest q = let z = h e rest q in absurd (omega arith)

pub same_rest : (n : ℕ) (x : Event) (marks : List ℕ) → length marks ≤ n → Shorter n (next x marks)
same_rest n x marks h e rest q = let k : marks ≡ rest = cc in rw k at h

pub tag_record-shorter : (text : Text) (kind : ℕ) (ps : List Pair) (rest : List ℕ) (n : ℕ) → length rest ≤ n → Shorter n (tag_record text kind ps rest)
unfolding tag_record
tag_record-shorter text kind ps rest n h =
    if-either (Shorter n) (all_inside (length text) 0 ps)
    (if-either (Shorter n) (all_ascii text ps) (same_rest n _ rest h) (no-shorter n _ λ e m q. cc))
    (no-shorter n _ λ e m q. cc)

pub drop-shorter : (k : ℕ) (rest : List ℕ) → length (drop k rest) ≤ length rest
drop-shorter k rest = rw length-drop (omega arith)

pub record1-shorter : (text : Text) (kind count : ℕ) (rest : List ℕ) → Shorter (length rest) (record1 text (kind ∷ count ∷ rest))
unfolding record1
record1-shorter text kind count rest =
    if-either (Shorter (length rest)) (form_test kind count (length rest))
    (if-either (Shorter (length rest)) (eqb kind 3) (same_rest _ _ rest (omega arith))
    (tag_record-shorter text kind (pairs_of (pair_count count) rest) _ (length rest) (drop-shorter (2 * pair_count count) rest)))
    (no-shorter _ _ λ e m q. cc)

pub next-shorter : (text : Text) (marks : List ℕ) (e : Event) (rest : List ℕ) → record1 text marks ≡ next e rest → length rest + 2 ≤ length marks
unfolding record1
next-shorter text [] e rest q = let z : ◌≡◌ {A = ℕ} 0 1 = cc in absurd (omega arith)
next-shorter text (kind ∷ []) e rest q = let z : ◌≡◌ {A = ℕ} 0 1 = cc in absurd (omega arith)
next-shorter text (kind ∷ count ∷ marks) e rest q = let h = record1-shorter text kind count marks e rest q in omega arith

-- no marks, no records
pub records-none : (fuel : ℕ) (text : Text) → records_from fuel text [] ≡ []
unfolding records_from record1
records-none zero text = refl
records-none (suc fuel) text = refl

pub nothing_left : (fuel : ℕ) (text : Text) (marks : List ℕ) → length marks ≤ 0 → records_from fuel text marks ≡ []
nothing_left fuel text [] h = records-none fuel text
nothing_left fuel text (m ∷ ms) h = absurd (omega arith)

-- "`fuel` records are all where the marks have no more numbers than that"
pub fuel-spare : (f g : ℕ) (text : Text) (marks : List ℕ) → length marks ≤ f → length marks ≤ g → records_from f text marks ≡ records_from g text marks
fuel-spare zero g text marks h k = rw (nothing_left zero text marks h, nothing_left g text marks h)
fuel-spare (suc f) zero text marks h k = rw (nothing_left (suc f) text marks k, nothing_left zero text marks k)
fuel-spare (suc f) (suc g) text marks h k =
    record-cases text marks
    (λ q. rw (records-finished f text marks q, records-finished g text marks q))
    (λ n q. rw (records-bad f text marks n q, records-bad g text marks n q))
    (λ e rest q. let l = next-shorter text marks e rest q in
    rw (records-next f text marks e rest q, records-next g text marks e rest q) (ap (λ js. event e ∷ js) (fuel-spare f g text rest (omega arith) (omega arith))))
