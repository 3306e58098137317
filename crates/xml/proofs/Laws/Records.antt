-- The tape of a well-formed text is read as its events: its pairs lie inside the text and rise, each holds a text, and each record has its numbers.
-- Assumes nothing.
use Prim.Native.Nat.{ℕ, zero, suc, ◌+◌, ◌-◌, ◌*◌, ◌≤◌}
use mathlib.Core.Path.{◌≡◌, refl, sym, ap, ◌∙◌}
use mathlib.Core.List.{List, [], ◌∷◌, ◌++◌}
use mathlib.Core.Bool.{true}
use native.Mathlib.Omega.{arith}
use lib.Dec.{eqb, leb, ltb}
use lib.ListN.{length, take, drop, length-append, take-append-drop}
use lib.Seq.{drop_at}
use mathlib.Core.Logic.{⊎_elim}
use borrow.Author.Tests.{eqb-true, le-leb, ne_eqb}
use Rattle.text.specs.Text.{Text, every, is_text, between}
use Rattle.std.proofs.lemmas.Bool.{or_cases, and_parts}
use Rattle.text.proofs.Laws.Tests.{and-true, and-true-left, and-true-right}
use Rattle.text.proofs.Laws.Class.{text-around}
use Rattle.xsd_parser.specs.Tape.{Pair, pairs_of, pair_text, pair_count, form_test, all_inside, all_ascii, tag_record, record1, next, event, Judged, records_from, records}
use Rattle.xsd_parser.proofs.Laws.Records.{records-none, records-next}
use Rattle.xml.specs.Tape.{AttributePairs, TapeEvent, attribute_marks, event_marks, tape_marks}
use Rattle.xml.specs.Document.{well_formed, document}
use Rattle.xml.specs.Accepted.{offset_behind, NameAt, ValueAt, AttributesAt, EventAt, EventsAt, few_attributes, attribute_pairs, event_read, records_read}
use Rattle.xml.specs.Values.{is_quote}
use Rattle.xml.proofs.Laws.Names.{name-text}
use Rattle.xml.proofs.Laws.Tags.{marks-length}
use Rattle.xml.proofs.Laws.Events.{events-at}

-- the pairs of a record's numbers
pub pairs_of_lem : (xs : List AttributePairs) (rest : List ℕ) → pairs_of (2 * length xs) (attribute_marks xs ++ rest) ≡ attribute_pairs xs
unfolding pairs_of attribute_marks attribute_pairs
pairs_of_lem [] rest = refl
pairs_of_lem (x ∷ xs) rest =
    let n : 2 * suc (length xs) ≡ suc (suc (2 * length xs)) = omega arith in
    rw n (ap (λ (ps : List Pair). x.key ∷ x.value ∷ ps) (pairs_of_lem xs rest))

pub pairs-of-tag : (name : Pair) (xs : List AttributePairs) (rest : List ℕ) → pairs_of (pair_count (length xs)) (name.offset ∷ name.size ∷ attribute_marks xs ++ rest) ≡ name ∷ attribute_pairs xs
unfolding pairs_of pair_count
pairs-of-tag name xs rest =
    let n : 1 + 2 * length xs ≡ suc (2 * length xs) = omega arith in
    rw n (ap (λ (ps : List Pair). name ∷ ps) (pairs_of_lem xs rest))

pub behind-tag : (o z : ℕ) (xs : List AttributePairs) (rest : List ℕ) → drop (2 * pair_count (length xs)) (o ∷ z ∷ attribute_marks xs ++ rest) ≡ rest
unfolding pair_count
behind-tag o z xs rest = drop_at (o ∷ z ∷ attribute_marks xs) rest (2 * (1 + 2 * length xs)) (omega (arith, marks-length xs))

-- 3: the form
pub tag-form : (kind o z : ℕ) (xs : List AttributePairs) (rest : List ℕ) → 1 ≤ kind → kind ≤ 2 → leb (length xs) 32 ≡ true
    → form_test kind (length xs) (length (o ∷ z ∷ attribute_marks xs ++ rest)) ≡ true
unfolding form_test between pair_count
tag-form kind o z xs rest h k f =
    let left : length (attribute_marks xs ++ rest) ≡ 4 * length xs + length rest = length-append (attribute_marks xs) rest ∙ ap (λ (n : ℕ). n + length rest) (marks-length xs) in
    rw (
      le-leb 1 kind h,
      le-leb kind 3 (omega arith),
      f,
      ne_eqb kind 3 (λ (e : kind ≡ 3). omega arith),
      le-leb (2 * (1 + 2 * length xs)) (suc (suc (length (attribute_marks xs ++ rest)))) (omega arith),
    )

-- 4: the pairs
pub inside-attributes : (text : Text) (end : ℕ) (xs : List AttributePairs) → AttributesAt text end xs → all_inside (length text) end (attribute_pairs xs) ≡ true
unfolding all_inside attribute_pairs
inside-attributes text end [] p = refl
inside-attributes text end (x ∷ xs) p =
    let a = p.0 in
    let b = p.2 in
    let c = p.4 in
    and-true (and-true (le-leb end x.key.offset a) (le-leb (offset_behind x.key) (length text) (omega arith)))
    (and-true (and-true (le-leb (offset_behind x.key) x.value.offset (omega arith)) (le-leb (offset_behind x.value) (length text) c)) (inside-attributes text (offset_behind x.value) xs p.5))

pub inside-tag : (text : Text) (name : Pair) (xs : List AttributePairs) → offset_behind name ≤ length text → AttributesAt text (offset_behind name) xs
    → all_inside (length text) 0 (name ∷ attribute_pairs xs) ≡ true
unfolding all_inside
inside-tag text name xs h p =
    and-true (and-true (le-leb 0 name.offset (omega arith)) (le-leb (offset_behind name) (length text) h)) (inside-attributes text (offset_behind name) xs p)

-- 5: the bytes. A name is a text, and so is what stands between the quotes of a text, which are bytes below 128.
pub name-pair : (text : Text) (p : Pair) → NameAt text p → is_text (pair_text text p) ≡ true
name-pair text p n = ap is_text n.whole ∙ name-text (drop p.offset text)

quote-low : (q : ℕ) → is_quote q ≡ true → ltb q 128 ≡ true
unfolding is_quote
quote-low q e = ⊎_elim (λ h. rw (eqb-true q 34 h)) (λ h. rw (eqb-true q 39 h)) (or_cases (eqb q 34) (eqb q 39) e)

pub value-pair : (text : Text) (p : Pair) → is_text text ≡ true → ValueAt text p → is_text (pair_text text p) ≡ true
value-pair text p t v =
    let low = quote-low v.quote v.quotes in
    let front = take (p.offset - 1) text in
    let part = pair_text text p in
    let split : text ≡ front ++ v.quote ∷ (part ++ v.quote ∷ v.rest) = sym (take-append-drop (p.offset - 1) text) ∙ ap (λ (s : Text). front ++ s) v.stands in
    let behind = and-true-right (is_text front) _ (sym (text-around front v.quote (part ++ v.quote ∷ v.rest) low) ∙ sym (ap is_text split) ∙ t) in
    and-true-left (is_text part) (is_text v.rest) (sym (text-around part v.quote v.rest low) ∙ behind)

pub attribute-texts : (text : Text) (end : ℕ) (xs : List AttributePairs) → is_text text ≡ true → AttributesAt text end xs → all_ascii text (attribute_pairs xs) ≡ true
unfolding all_ascii every attribute_pairs
attribute-texts text end [] t p = refl
attribute-texts text end (x ∷ xs) t p =
    and-true (name-pair text x.key p.1) (and-true (value-pair text x.value t p.3) (attribute-texts text (offset_behind x.value) xs t p.5))

pub tag-texts : (text : Text) (name : Pair) (xs : List AttributePairs) → is_text text ≡ true → NameAt text name
    → AttributesAt text (offset_behind name) xs → all_ascii text (name ∷ attribute_pairs xs) ≡ true
unfolding all_ascii every
tag-texts text name xs t n p = and-true (name-pair text name n) (attribute-texts text (offset_behind name) xs t p)

-- a record
pub record-tag : (text : Text) (kind : ℕ) (name : Pair) (xs : List AttributePairs) (rest : List ℕ) → is_text text ≡ true → leb (length xs) 32 ≡ true → EventAt text (TapeEvent.tag kind name xs)
    → record1 text (event_marks (TapeEvent.tag kind name xs) ++ rest) ≡ next (event_read text (TapeEvent.tag kind name xs)) rest
unfolding record1 tag_record event_marks event_read
record-tag text kind name xs rest t f p =
    let low = p.0 in
    let high = p.1 in
    rw (
      tag-form kind name.offset name.size xs rest low high f,
      ne_eqb kind 3 (λ (e : kind ≡ 3). omega arith),
      pairs-of-tag name xs rest,
      behind-tag name.offset name.size xs rest,
      inside-tag text name xs p.4 p.5,
      tag-texts text name xs t p.3 p.5,
    )

pub record-event : (text : Text) (e : TapeEvent) (rest : List ℕ) → is_text text ≡ true → few_attributes e ≡ true → EventAt text e → record1 text (event_marks e ++ rest) ≡ next (event_read text e) rest
unfolding few_attributes record1 event_marks event_read form_test between
record-event text (TapeEvent.tag kind name xs) rest t f p = record-tag text kind name xs rest t f p
record-event text TapeEvent.close rest t f p = refl

pub event-some : (e : TapeEvent) → 2 ≤ length (event_marks e)
unfolding event_marks
event-some (TapeEvent.tag kind name xs) = omega arith
event-some TapeEvent.close = omega arith

-- all records
pub records-from : (text : Text) (es : List TapeEvent) (fuel : ℕ) → is_text text ≡ true → every few_attributes es ≡ true → EventsAt text es → length (tape_marks es) ≤ fuel
    → records_from fuel text (tape_marks es) ≡ records_read text es
unfolding tape_marks every records_read
records-from text [] fuel t f p h = records-none fuel text
records-from text (e ∷ es) zero t f p h = absurd (omega (arith, h, event-some e, length-append (event_marks e) (tape_marks es)))
records-from text (e ∷ es) (suc fuel) t f p h =
    let few = and_parts (few_attributes e) (every few_attributes es) f in
    let size = length-append (event_marks e) (tape_marks es) in
    let some = event-some e in
    records-next fuel text (event_marks e ++ tape_marks es) (event_read text e) (tape_marks es) (record-event text e (tape_marks es) t few.0 p.0)
    ∙ ap (λ (js : List Judged). event (event_read text e) ∷ js) (records-from text es fuel t few.1 p.1 (omega arith))

pub tape-records : (text : Text) (es : List TapeEvent) → document text ≡ well_formed es → is_text text ≡ true → every few_attributes es ≡ true → records text (tape_marks es) ≡ records_read text es
unfolding records
tape-records text es d t f = records-from text es (length (tape_marks es)) t f (events-at text es d) (omega arith)
