-- The texts of a tape's events: what the tape's records hold. Assumes nothing.
use mathlib.Core.Path.{◌≡◌, refl}
use mathlib.Core.Bool.{Bool, true}
use mathlib.Core.List.{List, [], ◌∷◌}
use Prim.Native.Nat.{ℕ, zero, suc, ◌*◌}
use lib.Dec.{eqb}
use lib.ListN.{length, drop}
use Rattle.text.specs.Text.{Text, every, is_plain, is_text}
use Rattle.xsd_parser.specs.Event.{Event}
use Rattle.xsd_parser.specs.EventText.{attr_is_text, tag_ok, event_ok, judged_ok}
use Rattle.xsd_parser.specs.Tape.{Pair, pair_text, all_inside, all_ascii, attrs_of, tag_of, Recorded, finished, bad, next, event_of, form_test, pair_count, pairs_of}
use Rattle.xsd_parser.specs.Tape.{tag_record, record1, records_from, records}
use Rattle.xsd_parser.proofs.Laws.Records.{record-cases, records-finished, records-bad, records-next}
use Rattle.std.proofs.lemmas.Bool.{and_parts}
use Rattle.text.proofs.Laws.Tests.{and-true, if-keeps}
use Rattle.text.proofs.Laws.Class.{empty-text, plain-part-text}

-- 5 is refused for no pair of a plain text
pub ascii-whole : (text : Text) → is_plain text ≡ true → (ps : List Pair) → all_ascii text ps ≡ true
unfolding all_ascii every pair_text
ascii-whole text e [] = refl
ascii-whole text e (p ∷ ps) = and-true (plain-part-text p.offset p.size text e) (ascii-whole text e ps)

-- the texts under pairs that are judged
pub attrs-text : (text : Text) (ps : List Pair) → all_ascii text ps ≡ true → every attr_is_text (attrs_of text ps) ≡ true
unfolding all_ascii attrs_of every attr_is_text
attrs-text text [] e = refl
attrs-text text (k ∷ []) e = refl
attrs-text text (k ∷ v ∷ ps) e =
    let p = and_parts (is_text (pair_text text k)) (all_ascii text (v ∷ ps)) e in
    let q = and_parts (is_text (pair_text text v)) (all_ascii text ps) p.1 in
    and-true (and-true p.0 q.0) (attrs-text text ps q.1)

pub tag-text : (text : Text) (ps : List Pair) → all_ascii text ps ≡ true → tag_ok (tag_of text ps) ≡ true
unfolding all_ascii tag_of tag_ok every
tag-text text [] e = rw empty-text
tag-text text (n ∷ ps) e =
    let p = and_parts (is_text (pair_text text n)) (all_ascii text ps) e in
    and-true p.0 (attrs-text text ps p.1)

-- the event of a record, if it is one, is a text's
unfoldable pub recorded_ok : Recorded → Bool
recorded_ok finished = true
recorded_ok (bad r) = true
recorded_ok (next e rest) = event_ok e

pub tag_record-text : (text : Text) (kind : ℕ) (ps : List Pair) (rest : List ℕ) → recorded_ok (tag_record text kind ps rest) ≡ true
unfolding tag_record recorded_ok event_of event_ok
tag_record-text text kind ps rest =
    if-keeps recorded_ok (all_inside (length text) 0 ps)
    (λ a. if-keeps recorded_ok (all_ascii text ps)
    (λ b. if-keeps event_ok (eqb kind 1) (λ c. tag-text text ps b) (λ c. tag-text text ps b))
    (λ b. refl))
    (λ a. refl)

pub record1-text : (text : Text) (marks : List ℕ) → recorded_ok (record1 text marks) ≡ true
unfolding record1 recorded_ok event_ok
record1-text text [] = refl
record1-text text (kind ∷ []) = refl
record1-text text (kind ∷ count ∷ rest) =
    if-keeps recorded_ok (form_test kind count (length rest))
    (λ a. if-keeps recorded_ok (eqb kind 3) (λ b. refl)
    (λ b. tag_record-text text kind (pairs_of (pair_count count) rest) (drop (2 * pair_count count) rest)))
    (λ a. refl)

pub next-text : (text : Text) (marks : List ℕ) (e : Event) (rest : List ℕ) → record1 text marks ≡ next e rest → event_ok e ≡ true
unfolding recorded_ok
next-text text marks e rest q = let h : recorded_ok (next e rest) ≡ true = rw q at (record1-text text marks) in h

pub records_from-text : (fuel : ℕ) (text : Text) (marks : List ℕ) → every judged_ok (records_from fuel text marks) ≡ true
unfolding records_from every judged_ok
records_from-text zero text marks = refl
records_from-text (suc fuel) text marks =
    record-cases text marks
    (λ q. rw (records-finished fuel text marks q))
    (λ k q. rw (records-bad fuel text marks k q))
    (λ e rest q. rw (records-next fuel text marks e rest q) (and-true (next-text text marks e rest q) (records_from-text fuel text rest)))

-- every event of a tape is a text's
pub events-are-text : (text : Text) (marks : List ℕ) → every judged_ok (records text marks) ≡ true
unfolding records
events-are-text text marks = records_from-text (length marks) text marks
